-- Numbers as ids.
use Prim.Native.Nat.{ℕ}
use mathlib.Core.Path.{◌≡◌, refl, sym, ap, ◌∙◌}
use mathlib.Core.Option.{Option, none, some}
use Rattle.std.specs.Prelude as code
use Rattle.spec_lists.specs.Options.{optional_of, optional_to}
use Rattle.projection_patch.specs.Meaning.{node_to, key_to, before_to}
use Rattle.projection_patch.specs.declared.contract_primitives.StaticNodeId.{StaticNodeId}
use Rattle.projection_patch.specs.declared.contract_primitives.CollectionKey.{CollectionKey}

pub node_is : (r : StaticNodeId) (n : ℕ) → r.0 ≡ n → r ≡ node_to n
node_is r n e = ap node_to e

pub key_is : (r : CollectionKey) (k : ℕ) → r.0 ≡ k → r ≡ key_to k
key_is r k e = ap key_to e

optional_back : (a : Option ℕ) → optional_of (optional_to a) ≡ a
optional_back none = refl
optional_back (some n) = refl

-- the number behind an optional that was read
pub optional_is : (o : code.Option ℕ) (a : Option ℕ) → optional_to a ≡ o → optional_of o ≡ a
optional_is o a e = ap optional_of (sym e) ∙ optional_back a

pub before_is : (o : code.Option ℕ) (a : Option ℕ) → optional_to a ≡ o → (r : code.Option CollectionKey) → r ≡ before_to (optional_of o) → r ≡ before_to a
before_is o a e r f = f ∙ ap before_to (optional_is o a e)

-- What the patch checks ask of a patch of inserts: there is a line, no key occurs twice, and the numbers that the caller gives are in order.
use Rattle.std.specs.Prelude.{◌<◌, ◌≢◌, ◌≡◌}
use mathlib.Core.List.{List, [], ◌∷◌, ◌++◌, Memᴰ}
use Rattle.spec_patch.specs.Patch.{Envelope}
use Rattle.spec_import.specs.Import.{Term}

-- no key is that of an earlier term
abbrev pub Once : List Term → Type 0
Once ts = (a : List Term) (t : Term) (b : List Term) → ts ≡ a ++ (t ∷ b) → (u : Term) → Memᴰ u a → u.key ≢ t.key

-- what the checks ask
pub record InOrder (e : Envelope) (ts : List Term) : Type 0 where
  pub lines : ts ≢ []
  pub once : Once ts
  pub id : e.id ≢ 0
  pub stream : e.stream ≢ 0
  pub above : e.previous < e.revision

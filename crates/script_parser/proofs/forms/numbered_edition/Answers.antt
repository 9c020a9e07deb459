-- `script_parser::forms::numbered_edition` meets its contract: the first, the second, and none of them.
use Prim.Native.Nat.{ℕ}
use mathlib.Core.Path.{◌≡◌, sym, ap}
use mathlib.Core.Option.{none, some}
use borrow.Author.Tests.{ne_eqb}
use Rattle.spec_replay.specs.Script.{numbered_edition}
use Rattle.script_parser.proofs.forms.numbered_edition.Goals as goal

no_number : (n : ℕ) → (n ≡ 1 → ⊥) → (n ≡ 2 → ⊥) → none ≡ numbered_edition (some n)
unfolding numbered_edition
no_number n h k = rw (ne_eqb n 1 h, ne_eqb n 2 k)

pub returns-in-1 : goal.returns-in-1
unfolding numbered_edition
returns-in-1 c = ap (λ (n : ℕ). numbered_edition (some n)) (sym c.in-1.is)

pub returns-in-2 : goal.returns-in-2
unfolding numbered_edition
returns-in-2 c = ap (λ (n : ℕ). numbered_edition (some n)) (sym c.in-2.is)

pub returns-in_default : goal.returns-in_default
returns-in_default c = no_number _ (search c.in_default.in_default-own.rest) (search c.in_default.in_default-own.rest)

-- `places::clear_empty` meets its contract: a place is cleared where its first byte is 0.
use Prim.Native.Nat.{ℕ, zero, suc, ◌<◌}
use mathlib.Core.Path.{◌≡◌, refl, sym, ◌∙◌}
use native.Mathlib.Omega.{arith}
use Rattle.panel_page.specs.ShownLaws.{shown_itself, shown_zeros, shown_nothing}
use borrow.Author.Rules.{rules}
use Rattle.panel_page.proofs.places.clear_empty.Goals as goal

-- what is not 0 is above
positive : (n : ℕ) → (n ≡ 0 → ⊥) → 0 < n
positive zero h = absurd (h refl)
positive (suc n) h = omega arith

pub returns-then-place-eq0 : goal.returns-then-place-eq0
returns-then-place-eq0 c = shown_nothing c.args.place.now (search rules)

pub returns-then-place-eq0-2 : goal.returns-then-place-eq0-2
returns-then-place-eq0-2 c =
    c.clear.ensures ∙ sym (shown_zeros c.args.place.now (search rules))

pub returns-else-place-eq0-2 : goal.returns-else-place-eq0-2
returns-else-place-eq0-2 c = sym (shown_itself c.args.place.now (positive _ c.if-place-eq0-2.false))

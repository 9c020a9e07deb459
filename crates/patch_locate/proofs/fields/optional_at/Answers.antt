-- `patch_locate::fields::optional_at` meets its contract: the tag picks what follows.
use Prim.Native.Nat.{ℕ, ◌+◌}
use mathlib.Core.Path.{◌≡◌, refl, sym, ap, ◌∙◌}
use mathlib.Core.List.{List, [], ◌∷◌}
use native.Mathlib.Omega.{arith}
use borrow.Author.Tests.{ne_eqb}
use lib.ListN.{length, get_or, drop}
use Rattle.spec_patch.specs.Read.{read_u64}
use Rattle.spec_explain.specs.ReadingRule.{optional_tag}
use Rattle.spec_explain.specs.Locate.{stop_at, field, TagRow, ◌⇒◌, by_row, ends, locate_optional}
use Rattle.patch_locate.specs.Answers.{located_answer}
use Rattle.patch_locate.specs.Positions.{stop_here, past_here, tag_lacking, tag_there}
use Rattle.patch_locate.specs.declared.rules.ReadingRule.TheVariants as rules
use Rattle.std.specs.Prelude.{Err}
use Rattle.patch_locate.proofs.fields.optional_at.Goals as goal
use Rattle.patch_locate.proofs.fields.optional_at.Goals.{After-shared_slice_known-2-1}

abbrev part : After-shared_slice_known-2-1 → List ℕ
part c = c.args.part.now

abbrev at : After-shared_slice_known-2-1 → ℕ
at c = c.args.at

abbrev rows : List TagRow
rows = 0 ⇒ ends ∷ 1 ⇒ field read_u64 ∷ []

-- what follows the tag t is the whole's
tagged : (c : After-shared_slice_known-2-1) (t : ℕ) → get_or (part c) (at c) 0 ≡ t → located_answer (length (part c)) (by_row optional_tag rows (drop (at c) (part c)) t (drop (at c + 1) (part c))) ≡ located_answer (length (part c)) (locate_optional (drop (at c) (part c)))
unfolding locate_optional
tagged c t e = tag_there (part c) (at c) (by_row optional_tag rows (drop (at c) (part c))) (omega arith) t e

other : (bs : List ℕ) (t : ℕ) (rest : List ℕ) → (t ≡ 0 → ⊥) → (t ≡ 1 → ⊥) → by_row optional_tag rows bs t rest ≡ stop_at optional_tag bs
unfolding by_row
other bs t rest a b = rw (ne_eqb t 0 a, ne_eqb t 1 b)

pub returns-then-part-at : goal.returns-then-part-at
unfolding locate_optional
returns-then-part-at c =
    ap Err c.stop_at.ensures ∙ tag_lacking c.args.part.now c.args.at (by_row optional_tag rows (drop c.args.at c.args.part.now)) (omega arith)

pub returns-in-0 : goal.returns-in-0
unfolding by_row
returns-in-0 c =
    past_here (part (goal.at.returns-in-0 c).After-shared_slice_known-2-1) (at (goal.at.returns-in-0 c).After-shared_slice_known-2-1 + 1) (omega arith) ∙ tagged (goal.at.returns-in-0 c).After-shared_slice_known-2-1 0 c.in-0.is

pub returns-in-1 : goal.returns-in-1
unfolding by_row
returns-in-1 c =
    c.number_at.ensures ∙ tagged (goal.at.returns-in-1 c).After-shared_slice_known-2-1 1 c.in-1.is

pub returns-in_default : goal.returns-in_default
returns-in_default c =
    ap Err c.outside.ensures ∙ stop_here (part (goal.at.returns-in_default c).After-shared_slice_known-2-1) (at (goal.at.returns-in_default c).After-shared_slice_known-2-1) rules.OptionalTag (omega arith)
    ∙ ap (located_answer (length (part (goal.at.returns-in_default c).After-shared_slice_known-2-1))) (sym (other (drop (at (goal.at.returns-in_default c).After-shared_slice_known-2-1) (part (goal.at.returns-in_default c).After-shared_slice_known-2-1)) (get_or (part (goal.at.returns-in_default c).After-shared_slice_known-2-1) (at (goal.at.returns-in_default c).After-shared_slice_known-2-1) 0) (drop (at (goal.at.returns-in_default c).After-shared_slice_known-2-1 + 1) (part (goal.at.returns-in_default c).After-shared_slice_known-2-1)) c.in_default.in_default-own.rest.0.1 c.in_default.in_default-own.rest.1))
    ∙ tagged (goal.at.returns-in_default c).After-shared_slice_known-2-1 (get_or (part (goal.at.returns-in_default c).After-shared_slice_known-2-1) (at (goal.at.returns-in_default c).After-shared_slice_known-2-1) 0) refl

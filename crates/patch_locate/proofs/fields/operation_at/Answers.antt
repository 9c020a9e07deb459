-- `patch_locate::fields::operation_at` meets its contract: the tag picks the fields.
use Prim.Native.Nat.{ℕ, ◌+◌}
use mathlib.Core.Path.{◌≡◌, refl, sym, ap, ◌∙◌}
use mathlib.Core.List.{List, [], ◌∷◌}
use native.Mathlib.Omega.{arith}
use borrow.Author.Tests.{ne_eqb}
use lib.ListN.{length, get_or, drop}
use Rattle.spec_patch.specs.Edition.{Edition}
use Rattle.spec_patch.specs.Read.{read_u32, read_u64}
use Rattle.spec_explain.specs.ReadingRule.{operation_tag}
use Rattle.spec_explain.specs.Locate.{stop_at, ◌⨟◌, field, TagRow, ◌⇒◌, by_row, locate_optional, locate_availability, locate_value, locate_operation}
use Rattle.projection_patch.specs.Meaning.{edition_of}
use Rattle.patch_locate.specs.Answers.{located_answer}
use Rattle.patch_locate.specs.FieldsLaws.{letters_1, letters_2, letters_3, letters_4, letters_5, letters_6}
use Rattle.patch_locate.specs.Positions.{stop_here, tag_lacking, tag_there}
use Rattle.patch_locate.specs.declared.rules.ReadingRule.TheVariants as rules
use Rattle.std.specs.Prelude.{Err}
use Rattle.patch_locate.proofs.fields.operation_at.Goals as goal
use Rattle.patch_locate.proofs.fields.operation_at.Goals.{After-shared_slice_known-2-1}

abbrev part : After-shared_slice_known-2-1 → List ℕ
part c = c.args.part.now

abbrev at : After-shared_slice_known-2-1 → ℕ
at c = c.args.at

abbrev edition : After-shared_slice_known-2-1 → Edition
edition c = edition_of c.args.edition

abbrev rows : Edition → List TagRow
rows ed =
    1 ⇒ field read_u64 ⨟ field read_u32 ⨟ locate_value ed
    ∷ 2 ⇒ field read_u64 ⨟ locate_availability
    ∷ 3 ⇒ field read_u64 ⨟ field read_u64 ⨟ locate_optional ⨟ locate_value ed
    ∷ 4 ⇒ field read_u64 ⨟ field read_u64 ⨟ locate_value ed
    ∷ 5 ⇒ field read_u64 ⨟ field read_u64
    ∷ 6 ⇒ field read_u64 ⨟ field read_u64 ⨟ locate_optional
    ∷ []

-- what follows the tag t is the whole's
tagged : (c : After-shared_slice_known-2-1) (t : ℕ) → get_or (part c) (at c) 0 ≡ t
    → located_answer (length (part c)) (by_row operation_tag (rows (edition c)) (drop (at c) (part c)) t (drop (at c + 1) (part c))) ≡ located_answer (length (part c)) (locate_operation (edition c) (drop (at c) (part c)))
unfolding locate_operation
tagged c t e = tag_there (part c) (at c) (by_row operation_tag (rows (edition c)) (drop (at c) (part c))) (omega arith) t e

other : (ed : Edition) (bs : List ℕ) (t : ℕ) (rest : List ℕ) → (t ≡ 1 → ⊥) → (t ≡ 2 → ⊥) → (t ≡ 3 → ⊥) → (t ≡ 4 → ⊥) → (t ≡ 5 → ⊥) → (t ≡ 6 → ⊥) → by_row operation_tag (rows ed) bs t rest ≡ stop_at operation_tag bs
unfolding by_row
other ed bs t rest a b c d e f = rw (ne_eqb t 1 a, ne_eqb t 2 b, ne_eqb t 3 c, ne_eqb t 4 d, ne_eqb t 5 e, ne_eqb t 6 f)

pub returns-then-part-at : goal.returns-then-part-at
unfolding locate_operation
returns-then-part-at c =
    ap Err c.stop_at.ensures ∙ tag_lacking c.args.part.now c.args.at (by_row operation_tag (rows (edition_of c.args.edition)) (drop c.args.at c.args.part.now)) (omega arith)

pub returns-in-1 : goal.returns-in-1
unfolding by_row
returns-in-1 c =
    c.fields_at.ensures ∙ ap (located_answer (length (part (goal.at.returns-in-1 c).After-shared_slice_known-2-1))) (letters_1 (edition (goal.at.returns-in-1 c).After-shared_slice_known-2-1) (drop (at (goal.at.returns-in-1 c).After-shared_slice_known-2-1 + 1) (part (goal.at.returns-in-1 c).After-shared_slice_known-2-1))) ∙ tagged (goal.at.returns-in-1 c).After-shared_slice_known-2-1 1 c.in-1.is

pub returns-in-2 : goal.returns-in-2
unfolding by_row
returns-in-2 c =
    c.fields_at-in-2.ensures ∙ ap (located_answer (length (part (goal.at.returns-in-2 c).After-shared_slice_known-2-1))) (letters_2 (edition (goal.at.returns-in-2 c).After-shared_slice_known-2-1) (drop (at (goal.at.returns-in-2 c).After-shared_slice_known-2-1 + 1) (part (goal.at.returns-in-2 c).After-shared_slice_known-2-1))) ∙ tagged (goal.at.returns-in-2 c).After-shared_slice_known-2-1 2 c.in-2.is

pub returns-in-3 : goal.returns-in-3
unfolding by_row
returns-in-3 c =
    c.fields_at-in-3.ensures ∙ ap (located_answer (length (part (goal.at.returns-in-3 c).After-shared_slice_known-2-1))) (letters_3 (edition (goal.at.returns-in-3 c).After-shared_slice_known-2-1) (drop (at (goal.at.returns-in-3 c).After-shared_slice_known-2-1 + 1) (part (goal.at.returns-in-3 c).After-shared_slice_known-2-1))) ∙ tagged (goal.at.returns-in-3 c).After-shared_slice_known-2-1 3 c.in-3.is

pub returns-in-4 : goal.returns-in-4
unfolding by_row
returns-in-4 c =
    c.fields_at-in-4.ensures ∙ ap (located_answer (length (part (goal.at.returns-in-4 c).After-shared_slice_known-2-1))) (letters_4 (edition (goal.at.returns-in-4 c).After-shared_slice_known-2-1) (drop (at (goal.at.returns-in-4 c).After-shared_slice_known-2-1 + 1) (part (goal.at.returns-in-4 c).After-shared_slice_known-2-1))) ∙ tagged (goal.at.returns-in-4 c).After-shared_slice_known-2-1 4 c.in-4.is

pub returns-in-5 : goal.returns-in-5
unfolding by_row
returns-in-5 c =
    c.fields_at-in-5.ensures ∙ ap (located_answer (length (part (goal.at.returns-in-5 c).After-shared_slice_known-2-1))) (letters_5 (edition (goal.at.returns-in-5 c).After-shared_slice_known-2-1) (drop (at (goal.at.returns-in-5 c).After-shared_slice_known-2-1 + 1) (part (goal.at.returns-in-5 c).After-shared_slice_known-2-1))) ∙ tagged (goal.at.returns-in-5 c).After-shared_slice_known-2-1 5 c.in-5.is

pub returns-in-6 : goal.returns-in-6
unfolding by_row
returns-in-6 c =
    c.fields_at-in-6.ensures ∙ ap (located_answer (length (part (goal.at.returns-in-6 c).After-shared_slice_known-2-1))) (letters_6 (edition (goal.at.returns-in-6 c).After-shared_slice_known-2-1) (drop (at (goal.at.returns-in-6 c).After-shared_slice_known-2-1 + 1) (part (goal.at.returns-in-6 c).After-shared_slice_known-2-1))) ∙ tagged (goal.at.returns-in-6 c).After-shared_slice_known-2-1 6 c.in-6.is

pub returns-in_default : goal.returns-in_default
returns-in_default c =
    ap Err c.outside.ensures ∙ stop_here (part (goal.at.returns-in_default c).After-shared_slice_known-2-1) (at (goal.at.returns-in_default c).After-shared_slice_known-2-1) rules.OperationTag (omega arith)
    ∙ ap (located_answer (length (part (goal.at.returns-in_default c).After-shared_slice_known-2-1))) (sym (other (edition (goal.at.returns-in_default c).After-shared_slice_known-2-1) (drop (at (goal.at.returns-in_default c).After-shared_slice_known-2-1) (part (goal.at.returns-in_default c).After-shared_slice_known-2-1)) (get_or (part (goal.at.returns-in_default c).After-shared_slice_known-2-1) (at (goal.at.returns-in_default c).After-shared_slice_known-2-1) 0) (drop (at (goal.at.returns-in_default c).After-shared_slice_known-2-1 + 1) (part (goal.at.returns-in_default c).After-shared_slice_known-2-1)) c.in_default.in_default-own.rest.0.0.0.0.0.1 c.in_default.in_default-own.rest.0.0.0.0.1 c.in_default.in_default-own.rest.0.0.0.1 c.in_default.in_default-own.rest.0.0.1 c.in_default.in_default-own.rest.0.1 c.in_default.in_default-own.rest.1))
    ∙ tagged (goal.at.returns-in_default c).After-shared_slice_known-2-1 (get_or (part (goal.at.returns-in_default c).After-shared_slice_known-2-1) (at (goal.at.returns-in_default c).After-shared_slice_known-2-1) 0) refl

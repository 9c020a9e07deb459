-- `patch_locate::fields::field_at` meets its contract: the letter picks the field.
use Prim.Native.Nat.{ℕ}
use mathlib.Core.Path.{◌≡◌, sym, ap, ◌∙◌}
use mathlib.Core.List.{List}
use borrow.Author.Tests.{ne_eqb}
use lib.ListN.{length, drop}
use Rattle.spec_patch.specs.Edition.{Edition}
use Rattle.spec_patch.specs.Read.{read_u32, read_u64}
use Rattle.spec_explain.specs.Locate.{field, locate_optional, locate_availability, locate_value}
use Rattle.projection_patch.specs.Meaning.{edition_of}
use Rattle.patch_locate.specs.Answers.{located_answer}
use Rattle.patch_locate.specs.Fields.{field_of}
use Rattle.patch_locate.specs.FieldsLaws.{availability_is}
use Rattle.patch_locate.proofs.fields.field_at.Goals as goal

module _ (ed : Edition) (l : ℕ) (bs : List ℕ) where
  is_number : l ≡ 78 → field_of ed l bs ≡ field read_u64 bs
  unfolding field_of
  is_number e = rw e

  is_slot : l ≡ 83 → field_of ed l bs ≡ field read_u32 bs
  unfolding field_of
  is_slot e = rw e

  is_optional : l ≡ 79 → field_of ed l bs ≡ locate_optional bs
  unfolding field_of
  is_optional e = rw e

  is_availability : l ≡ 65 → field_of ed l bs ≡ locate_availability bs
  unfolding field_of
  is_availability e = rw e

  is_value : (l ≡ 78 → ⊥) → (l ≡ 83 → ⊥) → (l ≡ 79 → ⊥) → (l ≡ 65 → ⊥) → field_of ed l bs ≡ locate_value ed bs
  unfolding field_of
  is_value a b c d = rw (ne_eqb l 78 a, ne_eqb l 83 b, ne_eqb l 79 c, ne_eqb l 65 d)

pub returns-in-78 : goal.returns-in-78
returns-in-78 c =
    c.number_at.ensures ∙ ap (located_answer (length c.args.part.now)) (sym (is_number (edition_of c.args.edition) c.args.letter (drop c.args.at c.args.part.now) c.in-78.is))

pub returns-in-83 : goal.returns-in-83
returns-in-83 c =
    c.number_at-in-83.ensures ∙ ap (located_answer (length c.args.part.now)) (sym (is_slot (edition_of c.args.edition) c.args.letter (drop c.args.at c.args.part.now) c.in-83.is))

pub returns-in-79 : goal.returns-in-79
returns-in-79 c =
    c.optional_at.ensures ∙ ap (located_answer (length c.args.part.now)) (sym (is_optional (edition_of c.args.edition) c.args.letter (drop c.args.at c.args.part.now) c.in-79.is))

pub returns-in-65 : goal.returns-in-65
returns-in-65 c =
    c.byte_at_most.ensures
    ∙ ap (located_answer (length c.args.part.now)) (sym (availability_is (drop c.args.at c.args.part.now)) ∙ sym (is_availability (edition_of c.args.edition) c.args.letter (drop c.args.at c.args.part.now) c.in-65.is))

pub returns-in_default : goal.returns-in_default
returns-in_default c =
    c.value_at.ensures
    ∙ ap (located_answer (length c.args.part.now)) (sym (is_value (edition_of c.args.edition) c.args.letter (drop c.args.at c.args.part.now) c.in_default.in_default-own.rest.0.0.0.1 c.in_default.in_default-own.rest.0.0.1 c.in_default.in_default-own.rest.0.1 c.in_default.in_default-own.rest.1))

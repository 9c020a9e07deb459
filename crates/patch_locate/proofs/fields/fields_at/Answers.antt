-- `patch_locate::fields::fields_at` meets its contract: what is left of the letters answers from the next position on as the whole does. The measure is
-- what is left of the letters.
use Prim.Native.Nat.{ℕ, ◌+◌}
use mathlib.Core.Path.{◌≡◌, refl, sym, ap, ◌∙◌}
use mathlib.Core.List.{List}
use native.Mathlib.Omega.{arith}
use lib.ListN.{length, get_or, drop}
use Rattle.spec_patch.specs.Edition.{Edition}
use Rattle.spec_explain.specs.Locate.{◌⨟◌}
use Rattle.projection_patch.specs.Meaning.{edition_of}
use Rattle.patch_locate.specs.Answers.{located_answer}
use Rattle.patch_locate.specs.Fields.{field_of, fields_of}
use Rattle.patch_locate.specs.FieldsLaws.{steady_field_of, fields_turn, fields_end}
use Rattle.patch_locate.specs.Positions.{past_here, went, locates_on, locates_stop}
use Rattle.std.proofs.lemmas.Result.{err_from_is_err_and}
use Rattle.patch_locate.proofs.fields.fields_at.Goals as goal
use Rattle.patch_locate.proofs.fields.fields_at.Goals.{After-field_at}

abbrev part : After-field_at → List ℕ
part c = c.args.part.now

abbrev letters : After-field_at → List ℕ
letters c = c.args.letters.now

abbrev edition : After-field_at → Edition
edition c = edition_of c.args.edition

-- the field of the letter, and the others
turn : (c : After-field_at) → located_answer (length (part c)) (fields_of (edition c) (drop c.loop-letter.letter-index (letters c)) (drop c.loop-letter.next (part c)))
    ≡ located_answer (length (part c)) ((field_of (edition c) (get_or (letters c) c.loop-letter.letter-index 0) ⨟ fields_of (edition c) (drop (c.loop-letter.letter-index + 1) (letters c))) (drop c.loop-letter.next (part c)))
turn c = ap (located_answer (length (part c))) (fields_turn (edition c) (letters c) c.loop-letter.letter-index (omega arith) (drop c.loop-letter.next (part c)))

pub loop-letter-init : goal.loop-letter-init
loop-letter-init c = (omega arith, refl)

pub returns-in_err-next : goal.returns-in_err-next
returns-in_err-next c =
    let p = err_from_is_err_and c.from_residual.result c.from_residual.ensures.1 in rw (p.1, p.2) (
    locates_stop (field_of (edition (goal.at.returns-in_err-next c).After-field_at) (get_or (letters (goal.at.returns-in_err-next c).After-field_at) c.loop-letter.letter-index 0)) (fields_of (edition (goal.at.returns-in_err-next c).After-field_at) (drop (c.loop-letter.letter-index + 1) (letters (goal.at.returns-in_err-next c).After-field_at))) (part (goal.at.returns-in_err-next c).After-field_at) c.loop-letter.next c.field_at.result c.field_at.ensures _ c.in_err-next.was
    ∙ sym (turn (goal.at.returns-in_err-next c).After-field_at) ∙ c.loop-letter.invariant.1)

pub loop-letter-preserved : goal.loop-letter-preserved
loop-letter-preserved c =
    let steady = steady_field_of (edition (goal.at.loop-letter-preserved c).After-field_at) (get_or (letters (goal.at.loop-letter-preserved c).After-field_at) c.loop-letter.letter-index 0) in (
      (went steady (part (goal.at.loop-letter-preserved c).After-field_at) c.loop-letter.next c.field_at.result c.field_at.ensures _ c.in_ok-next.was).within,
      locates_on steady (part (goal.at.loop-letter-preserved c).After-field_at) c.loop-letter.next c.field_at.result c.field_at.ensures (fields_of (edition (goal.at.loop-letter-preserved c).After-field_at) (drop (c.loop-letter.letter-index + 1) (letters (goal.at.loop-letter-preserved c).After-field_at))) _ c.in_ok-next.was
          ∙ sym (turn (goal.at.loop-letter-preserved c).After-field_at) ∙ c.loop-letter.invariant.1,
    )

pub returns : goal.returns
returns c =
    past_here c.args.part.now c.loop-letter.next c.loop-letter.invariant.0
    ∙ ap (located_answer (length c.args.part.now)) (sym (fields_end (edition_of c.args.edition) c.args.letters.now c.loop-letter.letter-index (omega arith) (drop c.loop-letter.next c.args.part.now)))
    ∙ c.loop-letter.invariant.1

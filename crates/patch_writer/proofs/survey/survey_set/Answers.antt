-- `survey::survey_set` meets its contract: each test in turn.
use Prim.Native.Nat.{◌+◌, ◌*◌, ◌≤◌}
use Rattle.std.proofs.Common.{◌≡◌, sym, ◌∙◌, take, arith, rules}
use Rattle.std.specs.Prelude.{Err}
use Rattle.spec_lists.proofs.ListLaws.{unmapped}
use Rattle.spec_patch.specs.Sizes.{set_patches, text_bytes}
use Rattle.projection_patch.specs.Meaning.{edition_of}
use Rattle.patch_writer.specs.Set.{set_places, heads}
use Rattle.patch_writer.proofs.CallLaws.{Arrays}
use Rattle.patch_writer.proofs.Verdict.{heads_refused, HeadsWithin, heads_within, operations_refused, OperationsWithin, operations_within, many_patches, many_operations, many_places, long_text, both_passed, small_sum}
use Rattle.patch_writer.proofs.survey.survey_set.Goals as goal
use Rattle.patch_writer.proofs.survey.survey_set.Goals.{In_ok-operations, In_ok-rest, Start}

arrays : (c : Start) → Arrays c.args.set
arrays c = record { patches = search (rules, unmapped); operations = search (rules, unmapped) }

counted : (k : In_ok-operations) → HeadsWithin (heads k.args.set) k.in_ok-operations.operations k.in_ok-operations.heads
counted k = heads_within _ _ _ (sym k.survey_heads.ensures ∙ k.in_ok-operations.was)

measured : (k : In_ok-rest) → OperationsWithin (edition_of k.args.edition) k.args.texts.now (take k.in_ok-operations.operations k.args.set.operations) k.in_ok-rest.rest k.in_ok-rest.judgement
measured k = operations_within _ _ _ _ _ (sym k.survey_operations.ensures ∙ k.in_ok-rest.was)

small : (k : In_ok-rest) → k.in_ok-operations.heads + k.in_ok-rest.rest ≤ 69 * set_patches + (31 + text_bytes) * set_places
small k =
    small_sum (edition_of k.args.edition) k.args.texts.now k.args.set _ _ _ _ k.if-patch_count-gt-PATCHES.false k.if-operations-gt-PLACES.false (counted (goal.at.In_ok-rest k).In_ok-operations) (measured k) (arrays (goal.at.In_ok-rest k).Start)

pub returns-then-patch_count-gt-PATCHES : goal.returns-then-patch_count-gt-PATCHES
returns-then-patch_count-gt-PATCHES c = sym (many_patches (edition_of c.args.edition) c.args.texts.now c.args.set c.if-patch_count-gt-PATCHES.true)

pub returns-in_err-operations : goal.returns-in_err-operations
returns-in_err-operations c =
    let refused = heads_refused (heads c.args.set) c.in_err-operations.field-0.0 (sym c.survey_heads.ensures ∙ c.in_err-operations.was) in
    let told : c.from_residual.result ≡ Err c.in_err-operations.field-0.0 = search rules in
    rw (told, refused.0) (sym (many_operations (edition_of c.args.edition) c.args.texts.now c.args.set refused.1))

pub returns-then-operations-gt-PLACES : goal.returns-then-operations-gt-PLACES
returns-then-operations-gt-PLACES c =
    sym (many_places (edition_of c.args.edition) c.args.texts.now c.args.set c.in_ok-operations.operations (counted (goal.at.returns-then-operations-gt-PLACES c).In_ok-operations).counted c.if-operations-gt-PLACES.true)

pub returns-in_err-rest : goal.returns-in_err-rest
returns-in_err-rest c =
    let places = take c.in_ok-operations.operations c.args.set.operations in
    let refused = operations_refused (edition_of c.args.edition) c.args.texts.now places c.in_err-rest.field-0.0 (sym c.survey_operations.ensures ∙ c.in_err-rest.was) in
    let told : c.from_residual-in_err-rest.result ≡ Err c.in_err-rest.field-0.0 = search rules in
    rw (told, refused.0) (sym (long_text (edition_of c.args.edition) c.args.texts.now c.args.set c.in_ok-operations.operations (counted (goal.at.returns-in_err-rest c).In_ok-operations).counted refused.1))

pub overflow_add-heads : goal.overflow_add-heads
overflow_add-heads c = omega (arith, small c)

pub overflow_add-heads-2 : goal.overflow_add-heads-2
overflow_add-heads-2 c = omega (arith, small c)

pub returns : goal.returns
returns c =
    c.judge.ensures ∙ both_passed (edition_of c.args.edition) c.args.texts.now c.args.set _ _ _ _ c.if-patch_count-gt-PATCHES.false c.if-operations-gt-PLACES.false (counted (goal.at.returns c).In_ok-operations) (measured (goal.at.returns c).In_ok-rest)

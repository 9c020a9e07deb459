-- `set::write_patch_set` meets its contract: the survey refuses, or the output, or the heading and the patches are written.
-- ---- where the survey passes
use Prim.Native.Nat.{ℕ, ◌+◌, ◌≤◌}
use mathlib.Core.Path.{◌≡◌, sym, ap, ap₂, ◌∙◌}
use mathlib.Core.List.{List, ◌++◌, flat_map}
use native.Mathlib.Omega.{arith}
use borrow.Author.Tests.{le-leb, lt-leb}
use borrow.Author.Rules.{rules}
use Rattle.spec_lists.proofs.ListLaws.{unmapped}
use lib.ListN.{length, take}
use Rattle.spec_patch.specs.Edition.{Edition}
use Rattle.spec_patch.specs.Read.{patches, read_set}
use Rattle.spec_patch.specs.Encode.{u32, heading, encode_patch, encode}
use Rattle.bytes_wire.specs.Write.{overwrite}
use Rattle.bytes_wire.proofs.WriteLaws.{length_overwrite, overwrite_append}
use Rattle.projection_patch.specs.Meaning.{edition_of}
use Rattle.projection_patch.specs.declared.patch.ProjectionPatchSet.{ProjectionPatchSet}
use Rattle.std.specs.Prelude.{Result, Ok, Err}
use Rattle.patch_part_writer.specs.declared.written.WriteRefusal.{WriteRefusal}
use Rattle.patch_part_writer.specs.Answer.{written_at, output_at}
use Rattle.patch_part_writer.specs.ExtentLaws.{length_heading}
use Rattle.patch_part_writer.proofs.PartsLaws.{PartAnswered, answers_refusal, answers_short, answers_wrote}
use Rattle.patch_writer.specs.Set.{heads, list_from, list_of, operation_total, used, short_at, inside_at, patch_set_bytes}
use Rattle.patch_writer.specs.Survey.{HeadsHold}
use Rattle.patch_writer.proofs.Passes.{list_of_used}
use Rattle.spec_lists.specs.Lists.{all}
use Rattle.spec_patch.specs.Patch as model
use Rattle.std.proofs.Common.{length-take-le}
use Rattle.patch_writer.proofs.CallLaws.{Arrays, few_patches, few_operations_lem, places_suffice, encode_parts, patches_fit, encode_size, written_read}
use Rattle.patch_writer.proofs.Verdict.{survey_refused, SurveyWithin, survey_within}
use Rattle.patch_writer.proofs.set.write_patch_set.Goals as goal
use Rattle.patch_writer.proofs.set.write_patch_set.Goals.{In_err-operations, In_ok-operations, Start}

arrays : (c : Start) → Arrays c.args.set
arrays c = record { patches = search (rules, unmapped); operations = search (rules, unmapped) }

-- with what both clauses say of an answer and an output, what was written is read back
also-read : (c : Start) (r : Result ℕ WriteRefusal) (o : List ℕ)
    → let w = patch_set_bytes (edition_of c.args.edition) c.args.texts.now c.args.set in
    (r ≡ written_at c.args.out.now 0 w) × (o ≡ output_at c.args.out.now 0 w)
    → (r ≡ written_at c.args.out.now 0 w) × ((o ≡ output_at c.args.out.now 0 w) × ((n : ℕ) → r ≡ Ok n → read_set (edition_of c.args.edition) (take n o) ≡ patches (list_of c.args.texts.now c.args.set)))
also-read c r o h = (h.0, (h.1, written_read (edition_of c.args.edition) c.args.texts.now c.args.set (record { machine = _; known = c.well_formed.0 }) c.args.out.now r o h.0 h.1))

abbrev ed : In_ok-operations → Edition
ed e = edition_of e.args.edition

abbrev texts : In_ok-operations → List ℕ
texts e = e.args.texts.now

abbrev set : In_ok-operations → ProjectionPatchSet
set e = e.args.set

abbrev bytes : In_ok-operations → ℕ
bytes e = e.in_ok-operations.bytes

surveyed : (e : In_ok-operations) → SurveyWithin (ed e) (texts e) (set e) e.in_ok-operations.operations (bytes e)
surveyed e = survey_within (ed e) (texts e) (set e) _ _ (sym e.survey_set.ensures ∙ e.in_ok-operations.was)

-- the heading and the patches
abbrev body : In_ok-operations → List ℕ
body e = flat_map encode_patch (list_of (texts e) (set e))

sized : (e : In_ok-operations) → 35 + length (body e) ≡ bytes e
sized e = patches_fit (texts e) (set e) ((let it : (Arrays e.args.set) = record { patches = search (rules, unmapped); operations = search (rules, unmapped) } in it)) (surveyed e).fit (surveyed e).inside ∙ sym (surveyed e).sized

encoded-size : (e : In_ok-operations) → length (encode (ed e) (list_of (texts e) (set e))) ≡ bytes e
encoded-size e = encode_size (texts e) (set e) ((let it : (Arrays e.args.set) = record { patches = search (rules, unmapped); operations = search (rules, unmapped) } in it)) (surveyed e).fit (ed e) (surveyed e).inside ∙ sym (surveyed e).sized

pub returns-then-out-bytes : goal.returns-then-out-bytes
returns-then-out-bytes c =
    let all = also-read (goal.at.returns-then-out-bytes c).Start _ _ (answers_short c.args.out.now 0 (surveyed (goal.at.returns-then-out-bytes c).In_ok-operations).result (bytes (goal.at.returns-then-out-bytes c).In_ok-operations) (encoded-size (goal.at.returns-then-out-bytes c).In_ok-operations) (lt-leb (0 + bytes (goal.at.returns-then-out-bytes c).In_ok-operations) (length c.args.out.now) (omega (arith, c.if-out-bytes.true)))) in record { value = all.0; out_after = all.1.0; by_index = all.1.1 }

pub store_heading-requires : goal.store_heading-requires
store_heading-requires c =
    (omega (arith, sized (goal.at.store_heading-requires c).In_ok-operations, c.if-out-bytes.false), few_patches (texts (goal.at.store_heading-requires c).In_ok-operations) (set (goal.at.store_heading-requires c).In_ok-operations) (arrays (goal.at.store_heading-requires c).Start) (surveyed (goal.at.store_heading-requires c).In_ok-operations).fit)

pub shared_ref_as_front-heads : goal.shared_ref_as_front-heads
shared_ref_as_front-heads c =
    let e = (goal.at.shared_ref_as_front-heads c).In_ok-operations in
    few_patches (texts e) (set e) (arrays (goal.at.shared_ref_as_front-heads c).Start) (surveyed e).fit

pub shared_ref_as_front-places : goal.shared_ref_as_front-places
shared_ref_as_front-places c =
    let e = (goal.at.shared_ref_as_front-places c).In_ok-operations in
    let many = arrays (goal.at.shared_ref_as_front-places c).Start in
    omega (arith, (surveyed e).counted, places_suffice (texts e) (set e) many (surveyed e).fit, many.operations)

-- the places that are lent are those that the heads count, and the list is that of the set
used_places : (e : In_ok-operations) → take e.in_ok-operations.operations (set e).operations ≡ used (set e)
used_places e = ap (λ (n : ℕ). take n (set e).operations) (surveyed e).counted

lent_list : (e : In_ok-operations) → list_from (texts e) (heads (set e)) (take e.in_ok-operations.operations (set e).operations) ≡ list_of (texts e) (set e)
lent_list e = ap (list_from (texts e) (heads (set e))) (used_places e) ∙ list_of_used (texts e) (heads (set e)) (set e).operations

lent_hold : (e : In_ok-operations) → HeadsHold (texts e) (heads (set e)) (take e.in_ok-operations.operations (set e).operations)
lent_hold e =
    let it : Arrays e.args.set = record { patches = search (rules, unmapped); operations = search (rules, unmapped) } in
    record {
      few = few_operations_lem (texts e) (set e) it (surveyed e).fit;
      counted = sym (ap length (used_places e) ∙ length-take-le (operation_total (heads (set e))) (set e).operations (places_suffice (texts e) (set e) it (surveyed e).fit));
      hold = record { short = ap (all short_at) (used_places e) ∙ (surveyed e).short; inside = ap (all (inside_at (texts e))) (used_places e) ∙ (surveyed e).inside };
    }

pub write_patches-requires : goal.write_patches-requires
write_patches-requires c =
    let e = (goal.at.write_patches-requires c).In_ok-operations in
    let long = ap length c.store_heading.ensures ∙ length_overwrite c.args.out.now 0 (heading (ed e) ++ u32 (set e).patch_count) in
    let many = ap (λ (ps : List model.Patch). length (flat_map encode_patch ps)) (lent_list e) in
    record { heads = lent_hold e; enough = omega (arith, long, many, sized e, c.if-out-bytes.false) }

-- a refusal of the survey, and the output that is left
refused : (k : In_err-operations) → PartAnswered k.args.out.now 0 (patch_set_bytes (edition_of k.args.edition) k.args.texts.now k.args.set) (Err k.in_err-operations.field-0.0) k.args.out.now
refused k =
    answers_refusal k.args.out.now 0 k.in_err-operations.field-0.0 (survey_refused (edition_of k.args.edition) k.args.texts.now k.args.set k.in_err-operations.field-0.0 (sym k.survey_set.ensures ∙ k.in_err-operations.was))

pub returns-in_err-operations-clause-value : goal.returns-in_err-operations-clause-value
returns-in_err-operations-clause-value c =
    let told : c.from_residual.result ≡ Err c.in_err-operations.field-0.0 = search rules in
    told ∙ (refused (goal.at.returns-in_err-operations-clause-value c).In_err-operations).0

pub returns-in_err-operations-clause-out_after : goal.returns-in_err-operations-clause-out_after
returns-in_err-operations-clause-out_after c = (refused (goal.at.returns-in_err-operations-clause-out_after c).In_err-operations).1

pub returns : goal.returns
returns c =
    let e = (goal.at.returns c).In_ok-operations in
    let room : 35 + length (body e) ≤ length c.args.out.now = omega (arith, sized e, c.if-out-bytes.false) in
    let lent = ap (flat_map encode_patch) (lent_list e) in
    let all =
    c.write_patches.ensures.out_after
    ∙ ap₂ (λ (o b : List ℕ). overwrite o 35 b) c.store_heading.ensures lent
    ∙ overwrite_append c.args.out.now 0 (heading (ed e) ++ u32 (set e).patch_count) (body e) 35 (length_heading (ed e) (set e).patch_count) (omega arith)
    ∙ ap (overwrite c.args.out.now 0) (sym (encode_parts (texts e) (set e) (arrays (goal.at.returns c).Start) (surveyed e).fit (ed e))) in
    let answered = answers_wrote c.args.out.now 0 (surveyed e).result (35 + length (body e)) (encoded-size e ∙ sym (sized e)) (le-leb (0 + (35 + length (body e))) (length c.args.out.now) (omega arith)) c.write_patches.new.out all in
    let position : 35 + length (body e) ≡ 0 + (35 + length (body e)) = omega arith in
    let end = c.write_patches.ensures.value ∙ ap (λ (b : List ℕ). 35 + length b) lent ∙ position in
    let read = also-read (goal.at.returns c).Start _ _ (ap Ok end ∙ answered.0, answered.1) in
    record { value = read.0; out_after = read.1.0; by_index = read.1.1 }

-- `import_terms` meets its contract: the lines refuse, or the patch is refused, or the set is written.
-- ---- where every line holds a term
-- ---- where the patch fits
use Prim.Native.Nat.{ℕ, ◌+◌, ◌≤◌}
use mathlib.Core.Path.{◌≡◌, sym, ap, ◌∙◌}
use mathlib.Core.Bool.{Bool, ◌||◌}
use mathlib.Core.List.{List, [], map}
use native.Mathlib.Omega.{arith}
use borrow.Author.Rules.{rules}
use lib.ListN.{length}
use Rattle.spec_patch.specs.Patch.{Envelope}
use Rattle.spec_patch.specs.Edition.{Edition}
use Rattle.spec_patch.specs.Encode.{encode}
use Rattle.spec_import.specs.Import.{lines, read_terms, insert_of, patch_of, import_patch, import_terms, set_of}
use Rattle.spec_import.proofs.LineLaws.{LinesRead, lines_read}
use Rattle.projection_patch.specs.Meaning.{edition_of, envelope_of}
use Rattle.projection_patch.specs.declared.patch.ProjectionPatch.{ProjectionPatch}
use Rattle.patch_part_writer.specs.Extent.{head_size}
use Rattle.patch_writer.specs.RangeLaws.{envelope_in_range}
use Rattle.check_quick.specs.Quick.{found_from, head_found}
use Rattle.std.specs.Prelude.{Result, Ok, Err}
use Rattle.patch_import.specs.declared.answer.ImportRefusal.{ImportRefusal}
use Rattle.patch_import.specs.Answers.{import_answer, import_output, import_refusal_of}
use Rattle.patch_import.specs.Survey.{held_of, insert_bytes}
use Rattle.patch_import.specs.SurveyLaws.{survey_faulty, Surveyed, survey_held, bytes_few}
use Rattle.patch_import.specs.SetLaws.{set_size, judged_refused, judged_imports, fits_told}
use Rattle.patch_import.specs.AnswersLaws.{ImportLeft, left_unimported, left_imported, of_faulty, of_terms, ReadsBack, imported_read}
use Rattle.patch_import.proofs.import_terms.Goals as goal
use Rattle.patch_import.proofs.import_terms.Goals.{In_err-lines, In_err-size, In_ok-lines, In_ok-size, Start}

abbrev list : Start → List ℕ
list s = s.args.list.now

abbrev out : Start → List ℕ
out s = s.args.out.now

abbrev ed : Start → Edition
ed s = edition_of s.args.edition

abbrev e : Start → Envelope
e s = envelope_of s.args.envelope

-- with what both clauses say of an answer and an output, what was written is read back
also-read : (s : Start) (r : Result ℕ ImportRefusal) (o : List ℕ) → let w = import_terms (ed s) s.args.collection (e s) (list s) (length (out s)) in
    ImportLeft (out s) w r o → (r ≡ import_answer w) × ((o ≡ import_output (out s) w) × ReadsBack (ed s) s.args.collection (e s) (list s) r o)
also-read s r o h = (h.0, (h.1, imported_read (ed s) s.args.collection (e s) s.ranges.collection.fits (envelope_in_range s.args.envelope _ s.well_formed.1.1.1.0) (list s) (out s) r o h))

abbrev count : In_ok-lines → ℕ
count k = k.in_ok-lines.lines.count

abbrev bytes : In_ok-lines → ℕ
bytes k = k.in_ok-lines.lines.bytes

abbrev repeated : In_ok-lines → Bool
repeated k = k.in_ok-lines.lines.repeated

abbrev patch : In_ok-lines → ProjectionPatch
patch k = record { envelope = k.args.envelope; operation_count = count k }

held : (k : In_ok-lines) → Surveyed k.args.collection (read_terms 0 (lines (list (goal.at.In_ok-lines k).Start))) (count k) (bytes k) (repeated k)
held k = survey_held k.args.collection (read_terms 0 (lines (list (goal.at.In_ok-lines k).Start))) (count k) (bytes k) (repeated k) (sym k.survey_lines.ensures ∙ k.in_ok-lines.was)

read : (k : In_ok-lines) → LinesRead 0 (lines (list (goal.at.In_ok-lines k).Start)) (held_of (list (goal.at.In_ok-lines k).Start))
read k = lines_read 0 (lines (list (goal.at.In_ok-lines k).Start)) (held_of (list (goal.at.In_ok-lines k).Start)) (omega arith) (held k).held

abbrev size : In_ok-lines → ℕ
size k = 35 + (head_size (patch k) + bytes k)

abbrev found : In_ok-lines → Bool
found k = head_found (e (goal.at.In_ok-lines k).Start) (count k) || repeated k

abbrev set : In_ok-lines → List ℕ
set k = encode (ed (goal.at.In_ok-lines k).Start) (set_of k.args.collection (e (goal.at.In_ok-lines k).Start) (held_of (list (goal.at.In_ok-lines k).Start)))

sized : (k : In_ok-lines) → size k ≡ 35 + (head_size (patch k) + length (insert_bytes k.args.collection (held_of (list (goal.at.In_ok-lines k).Start))))
sized k = ap (λ (n : ℕ). 35 + (head_size (patch k) + n)) (held k).sized

finds : (k : In_ok-lines) → found k ≡ (head_found (e (goal.at.In_ok-lines k).Start) (count k) || found_from [] (map (insert_of k.args.collection) (held_of (list (goal.at.In_ok-lines k).Start))))
finds k = ap (λ (b : Bool). head_found (e (goal.at.In_ok-lines k).Start) (count k) || b) (held k).told

-- what bringing in gives is what it gives of the lines' patch
given : (k : In_ok-lines) → import_terms (ed (goal.at.In_ok-lines k).Start) k.args.collection (e (goal.at.In_ok-lines k).Start) (list (goal.at.In_ok-lines k).Start) (length (out (goal.at.In_ok-lines k).Start)) ≡ import_patch (ed (goal.at.In_ok-lines k).Start) (patch_of k.args.collection (e (goal.at.In_ok-lines k).Start) (held_of (list (goal.at.In_ok-lines k).Start))) (length (out (goal.at.In_ok-lines k).Start))
given k = of_terms (ed (goal.at.In_ok-lines k).Start) k.args.collection (e (goal.at.In_ok-lines k).Start) (list (goal.at.In_ok-lines k).Start) (length (out (goal.at.In_ok-lines k).Start)) (held_of (list (goal.at.In_ok-lines k).Start)) (held k).held

abbrev length-told : In_ok-size → ℕ
length-told k = k.in_ok-size.size

fits : (k : In_ok-size) → (length-told k ≡ length (set (goal.at.In_ok-size k).In_ok-lines)) × (length-told k ≤ length (out (goal.at.In_ok-size k).Start))
fits k =
    fits_told (ed (goal.at.In_ok-size k).Start) k.args.collection (patch (goal.at.In_ok-size k).In_ok-lines) (held_of (list (goal.at.In_ok-size k).Start)) (held (goal.at.In_ok-size k).In_ok-lines).counted (size (goal.at.In_ok-size k).In_ok-lines) (sized (goal.at.In_ok-size k).In_ok-lines) (found (goal.at.In_ok-size k).In_ok-lines) (finds (goal.at.In_ok-size k).In_ok-lines) (length (out (goal.at.In_ok-size k).Start)) (length-told k) (sym k.judge_patch.ensures ∙ k.in_ok-size.was)

pub judge_patch-requires : goal.judge_patch-requires
judge_patch-requires c = omega (arith, (held c).sized, bytes_few c.args.collection (held_of (list (goal.at.judge_patch-requires c).Start)) (read c).kept, (read c).few)

pub write_patch-requires : goal.write_patch-requires
write_patch-requires c =
    let long = set_size (ed (goal.at.write_patch-requires c).Start) c.args.collection (patch (goal.at.write_patch-requires c).In_ok-lines) (held_of (list (goal.at.write_patch-requires c).Start)) (held (goal.at.write_patch-requires c).In_ok-lines).counted in
    (record { held = (held (goal.at.write_patch-requires c).In_ok-lines).held; enough = omega (arith, (fits (goal.at.write_patch-requires c).In_ok-size).0, (fits (goal.at.write_patch-requires c).In_ok-size).1, long) }, (held (goal.at.write_patch-requires c).In_ok-lines).counted)

-- a refusal of the lines, and the output that is left
refused : (s : In_err-lines) → ImportLeft (out (goal.at.In_err-lines s).Start) (import_terms (ed (goal.at.In_err-lines s).Start) s.args.collection (e (goal.at.In_err-lines s).Start) (list (goal.at.In_err-lines s).Start) (length (out (goal.at.In_err-lines s).Start))) (Err s.in_err-lines.field-0.0) (out (goal.at.In_err-lines s).Start)
refused s =
    let start = (goal.at.In_err-lines s).Start in
    left_unimported (out start) s.in_err-lines.field-0.0 (of_faulty (ed start) s.args.collection (e start) (list start) (length (out start)) (import_refusal_of s.in_err-lines.field-0.0) (survey_faulty s.args.collection (read_terms 0 (lines (list start))) s.in_err-lines.field-0.0 (sym s.survey_lines.ensures ∙ s.in_err-lines.was)))

pub returns-in_err-lines-clause-value : goal.returns-in_err-lines-clause-value
returns-in_err-lines-clause-value c =
    let told : c.from_residual.result ≡ Err c.in_err-lines.field-0.0 = search rules in
    told ∙ (refused (goal.at.returns-in_err-lines-clause-value c).In_err-lines).0

pub returns-in_err-lines-clause-out_after : goal.returns-in_err-lines-clause-out_after
returns-in_err-lines-clause-out_after c = (refused (goal.at.returns-in_err-lines-clause-out_after c).In_err-lines).1

-- a refusal of the patch, and the output that is left
unfit : (s : In_err-size) → ImportLeft (out (goal.at.In_err-size s).Start) (import_terms (ed (goal.at.In_err-size s).Start) s.args.collection (e (goal.at.In_err-size s).Start) (list (goal.at.In_err-size s).Start) (length (out (goal.at.In_err-size s).Start))) (Err s.in_err-size.field-0.0) (out (goal.at.In_err-size s).Start)
unfit s =
    let start = (goal.at.In_err-size s).Start in
    let k = (goal.at.In_err-size s).In_ok-lines in
    let judged = judged_refused (ed start) s.args.collection (patch k) (held_of (list start)) (held k).counted (size k) (sized k) (found k) (finds k) (length (out start)) s.in_err-size.field-0.0 (sym s.judge_patch.ensures ∙ s.in_err-size.was) in
    left_unimported (out start) s.in_err-size.field-0.0 (given k ∙ judged)

pub returns-in_err-size-clause-value : goal.returns-in_err-size-clause-value
returns-in_err-size-clause-value c =
    let told : c.from_residual-in_err-size.result ≡ Err c.in_err-size.field-0.0 = search rules in
    told ∙ (unfit (goal.at.returns-in_err-size-clause-value c).In_err-size).0

pub returns-in_err-size-clause-out_after : goal.returns-in_err-size-clause-out_after
returns-in_err-size-clause-out_after c = (unfit (goal.at.returns-in_err-size-clause-out_after c).In_err-size).1

pub returns : goal.returns
returns c =
    let all = let is = judged_imports (ed (goal.at.returns c).Start) c.args.collection (patch (goal.at.returns c).In_ok-lines) (held_of (list (goal.at.returns c).Start)) (held (goal.at.returns c).In_ok-lines).counted (size (goal.at.returns c).In_ok-lines) (sized (goal.at.returns c).In_ok-lines) (found (goal.at.returns c).In_ok-lines) (finds (goal.at.returns c).In_ok-lines) (length (out (goal.at.returns c).Start)) (length-told (goal.at.returns c).In_ok-size) (sym c.judge_patch.ensures ∙ c.in_ok-size.was) in
    also-read (goal.at.returns c).Start _ _ (left_imported (out (goal.at.returns c).Start) (set (goal.at.returns c).In_ok-lines) (given (goal.at.returns c).In_ok-lines ∙ is) (length-told (goal.at.returns c).In_ok-size) (fits (goal.at.returns c).In_ok-size).0 (fits (goal.at.returns c).In_ok-size).1 _ c.write_patch.ensures) in record { value = all.0; out_after = all.1.0; by_index = all.1.1 }

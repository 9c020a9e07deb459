-- `patch_converter::convert` meets its contract: reading refuses, or a kind is missing, or the output is too short, or the set is written.
-- ---- where the set was read, and its kinds have been asked for
use Prim.Native.Nat.{ℕ, ◌≤◌}
use mathlib.Core.Path.{◌≡◌, sym, ap, ◌∙◌}
use mathlib.Core.List.{List, ◌∷◌, ◌++◌}
use native.Mathlib.Omega.{arith}
use borrow.Author.Rules.{rules}
use lib.ListN.{length, take, drop}
use Rattle.spec_lists.specs.Bytes.{Bytes}
use Rattle.spec_lists.proofs.BytesLaws.{bytes_of}
use Rattle.spec_patch.specs.Edition.{Edition, edition_digit}
use Rattle.spec_patch.specs.Read.{read_set}
use Rattle.spec_conversion.specs.Conversion as model
use Rattle.spec_conversion.specs.Conversion.{other_edition, all_kinds, convert}
use Rattle.spec_conversion.proofs.ConversionLaws.{heading_within}
use Rattle.bytes_wire.specs.Write.{overwrite}
use Rattle.projection_patch.specs.Meaning.{edition_of}
use Rattle.projection_patch.specs.ReadAnswers.{fault_of}
use Rattle.std.specs.Prelude.{Result, Ok, Err}
use Rattle.patch_converter.specs.declared.ConversionRefusal.{ConversionRefusal}
use Rattle.patch_converter.specs.Answers.{unread_to, conversion_answer, conversion_output}
use Rattle.patch_converter.specs.AnswersLaws.{Readable, set_readable, set_not_read, is_unread, is_missing, is_short, is_converted, letter_length, ConversionLeft, left_unconverted, left_converted, converted_read}
use mathlib.Core.Path.{ap}
use Rattle.patch_converter.proofs.convert.Goals as goal
use Rattle.patch_converter.proofs.convert.Goals.{After-has_every_kind, After-read_set, In_err-read_set}

abbrev set : After-read_set → List ℕ
set k = k.args.set.now

abbrev out : After-read_set → List ℕ
out k = k.args.out.now

abbrev from : After-read_set → Edition
from k = edition_of k.args.from

all_bytes : (k : After-read_set) → Bytes (set k)
all_bytes k = bytes_of (set k) (λ j. (k.type_inv.set j).fits)

-- with what both clauses say of an answer and an output, what was written is read back
also-read : (k : After-read_set) (r : Result ℕ ConversionRefusal) (o : List ℕ) → let w = convert (from k) (set k) (length (out k)) in
    ConversionLeft (out k) w r o → (r ≡ conversion_answer w) × ((o ≡ conversion_output (out k) w) × ((n : ℕ) → r ≡ Ok n → read_set (other_edition (from k)) (take n o) ≡ read_set (from k) (set k)))
also-read k r o h = (h.0, (h.1, converted_read (from k) (set k) (all_bytes k) (out k) r o h))

listed : (k : After-has_every_kind) → Readable ((edition_of k.args.from)) ((k.args.set.now))
listed k = set_readable ((edition_of k.args.from)) ((k.args.set.now)) _ _ (sym k.read_set.ensures ∙ k.in_ok-read_set.was)

asked : (k : After-has_every_kind) → all_kinds (other_edition ((edition_of k.args.from))) (listed k).list ≡ k.has_every_kind.result
asked k = sym (k.has_every_kind.ensures (listed k).list (listed k).reads ∙ ap (λ (ed : Edition). all_kinds ed (listed k).list) k.other_edition-to.ensures)

-- the set with the letter of the other edition
abbrev after : After-read_set → Edition → List ℕ
after k ed = take 30 (set k) ++ (edition_digit ed ∷ drop 31 (set k))

long : (k : After-has_every_kind) → 31 ≤ length ((k.args.set.now))
long k = heading_within ((edition_of k.args.from)) ((k.args.set.now)) (listed k).list ((let it : (Bytes ((k.args.set.now))) = bytes_of ((k.args.set.now)) (λ j. (k.type_inv.set j).fits) in it)) (listed k).reads

pub returns-then-not-has_every_kind : goal.returns-then-not-has_every_kind
returns-then-not-has_every_kind c =
    let all = also-read (goal.at.returns-then-not-has_every_kind c).After-read_set _ _ (left_unconverted (out (goal.at.returns-then-not-has_every_kind c).After-read_set) model.kind_missing (is_missing (from (goal.at.returns-then-not-has_every_kind c).After-read_set) (set (goal.at.returns-then-not-has_every_kind c).After-read_set) (length (out (goal.at.returns-then-not-has_every_kind c).After-read_set)) (listed (goal.at.returns-then-not-has_every_kind c).After-has_every_kind).list (listed (goal.at.returns-then-not-has_every_kind c).After-has_every_kind).reads (asked (goal.at.returns-then-not-has_every_kind c).After-has_every_kind ∙ c.if-not-has_every_kind.true))) in record { value = all.0; out_after = all.1.0; by_index = all.1.1 }

pub returns-then-out-set : goal.returns-then-out-set
returns-then-out-set c =
    let all = also-read (goal.at.returns-then-out-set c).After-read_set _ _ (left_unconverted (out (goal.at.returns-then-out-set c).After-read_set) model.output_too_short (is_short (from (goal.at.returns-then-out-set c).After-read_set) (set (goal.at.returns-then-out-set c).After-read_set) (length (out (goal.at.returns-then-out-set c).After-read_set)) (listed (goal.at.returns-then-out-set c).After-has_every_kind).list (listed (goal.at.returns-then-out-set c).After-has_every_kind).reads (all_bytes (goal.at.returns-then-out-set c).After-read_set) (asked (goal.at.returns-then-out-set c).After-has_every_kind ∙ c.if-not-has_every_kind.false) (omega (arith, c.if-out-set.true)))) in record { value = all.0; out_after = all.1.0; by_index = all.1.1 }

pub store_with_letter-requires : goal.store_with_letter-requires
store_with_letter-requires c = (long (goal.at.store_with_letter-requires c).After-has_every_kind, omega (arith, c.if-out-set.false))

-- a fault in reading, and the output that is left
unread : (k : In_err-read_set) → ConversionLeft k.args.out.now (convert (edition_of k.args.from) k.args.set.now (length k.args.out.now)) (Err (unread_to k.in_err-read_set.field-0.0)) k.args.out.now
unread k =
    left_unconverted k.args.out.now (model.unread (fault_of k.in_err-read_set.field-0.0)) (is_unread (edition_of k.args.from) k.args.set.now (length k.args.out.now) k.in_err-read_set.field-0.0 (set_not_read (edition_of k.args.from) k.args.set.now k.in_err-read_set.field-0.0 (sym k.read_set.ensures ∙ k.in_err-read_set.was)))

pub returns-in_err-read_set-clause-value : goal.returns-in_err-read_set-clause-value
returns-in_err-read_set-clause-value c =
    let told : c.from_residual.result ≡ Err (unread_to c.in_err-read_set.field-0.0) = search rules in
    told ∙ (unread (goal.at.returns-in_err-read_set-clause-value c).In_err-read_set).0

pub returns-in_err-read_set-clause-out_after : goal.returns-in_err-read_set-clause-out_after
returns-in_err-read_set-clause-out_after c = (unread (goal.at.returns-in_err-read_set-clause-out_after c).In_err-read_set).1

pub returns : goal.returns
returns c =
    let all = let o = out (goal.at.returns c).After-read_set in
    let room : length (set (goal.at.returns c).After-read_set) ≤ length o = omega (arith, c.if-out-set.false) in
    let done = is_converted (from (goal.at.returns c).After-read_set) (set (goal.at.returns c).After-read_set) (length o) (listed (goal.at.returns c).After-has_every_kind).list (listed (goal.at.returns c).After-has_every_kind).reads (all_bytes (goal.at.returns c).After-read_set) (asked (goal.at.returns c).After-has_every_kind ∙ c.if-not-has_every_kind.false) room in
    let written = c.store_with_letter.ensures ∙ ap (λ (ed : Edition). overwrite o 0 (after (goal.at.returns c).After-read_set ed)) c.other_edition-to.ensures in
    also-read (goal.at.returns c).After-read_set _ _ (left_converted o (after (goal.at.returns c).After-read_set (other_edition (from (goal.at.returns c).After-read_set))) done (length (set (goal.at.returns c).After-read_set)) (letter_length (set (goal.at.returns c).After-read_set) _ (long (goal.at.returns c).After-has_every_kind)) room _ written) in record { value = all.0; out_after = all.1.0; by_index = all.1.1 }

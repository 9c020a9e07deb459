-- `patch_sets::read_heading` meets its contract: the number of letters, the letters, then the patch count.
use Prim.Native.Nat.{ℕ}
use mathlib.Core.Path.{◌≡◌, sym, ap, ◌∙◌}
use mathlib.Core.List.{List}
use mathlib.Core.Option.{some}
use native.Mathlib.Omega.{arith}
use lib.ListN.{length, drop}
use Rattle.spec_lists.specs.Bytes.{Bytes}
use Rattle.spec_lists.proofs.BytesLaws.{bytes_of}
use Rattle.spec_patch.specs.Edition.{Edition, letters}
use Rattle.bytes_wire.specs.Read.{first_number}
use Rattle.spec_lists.specs.Options.{optional_of}
use Rattle.spec_patch.specs.Reader.{malformed}
use Rattle.patch_sets.specs.HeadLaws.{heading_by_letters, heading_refused}
use Rattle.projection_patch.specs.Meaning.{edition_of}
use Rattle.projection_patch.specs.ReadAnswers.{count_answer}
use Rattle.patch_sets.proofs.Heads.{letter_count, no_number, other_number, other_letters, heading_there}
use Rattle.std.proofs.lemmas.Result.{err_from_is_err_and}
use Rattle.projection_patch.proofs.At.{there, not_there}
use Rattle.patch_sets.proofs.read_heading.Goals as goal
use Rattle.patch_sets.proofs.read_heading.Goals.{After-shared_slice_known-1, In_ok-letters}

abbrev set : After-shared_slice_known-1 → List ℕ
set c = c.args.set.now

abbrev edition : After-shared_slice_known-1 → Edition
edition c = edition_of c.args.edition

all_bytes : (c : After-shared_slice_known-1) → Bytes (set c)
all_bytes c = bytes_of (set c) (λ j. (c.type_inv.set j).fits)

number : (c : In_ok-letters) → some c.in_ok-letters.letters ≡ first_number 4 ((c.args.set.now))
number c = sym (ap optional_of (there c.read_u32_at.result c.in_ok-letters.letters c.in_ok-letters.ensures.value)) ∙ c.read_u32_at.ensures

pub returns-in_err-letters : goal.returns-in_err-letters
returns-in_err-letters c =
    let k = (goal.at.returns-in_err-letters c).After-shared_slice_known-1 in
    let e = not_there c.read_u32_at.result c.in_err-letters.field-0.0 c.in_err-letters.ensures.value in
    let p = err_from_is_err_and c.from_residual.result c.from_residual.ensures.1 in
    let refusal = no_number (edition k) (set k) (all_bytes k) (sym (ap optional_of e.0) ∙ c.read_u32_at.ensures) in
    rw (p.1, p.2, ← e.1, heading_refused (edition k) (set k) malformed refusal)

pub returns-then-letters-ne27 : goal.returns-then-letters-ne27
unfolding letters
returns-then-letters-ne27 c =
    let l = set (goal.at.returns-then-letters-ne27 c).After-shared_slice_known-1 in
    let refusal = other_number (edition (goal.at.returns-then-letters-ne27 c).After-shared_slice_known-1) l (all_bytes (goal.at.returns-then-letters-ne27 c).After-shared_slice_known-1) c.in_ok-letters.letters (number (goal.at.returns-then-letters-ne27 c).In_ok-letters) (λ e. omega (arith, e)) in
    rw (heading_refused (edition (goal.at.returns-then-letters-ne27 c).After-shared_slice_known-1) l malformed refusal)

pub returns-then-has_letters : goal.returns-then-has_letters
unfolding letters
returns-then-has_letters c =
    let l = set (goal.at.returns-then-has_letters c).After-shared_slice_known-1 in
    let is : c.in_ok-letters.letters ≡ letter_count (edition (goal.at.returns-then-has_letters c).After-shared_slice_known-1) = omega arith in
    let there = heading_there (edition (goal.at.returns-then-has_letters c).After-shared_slice_known-1) l (all_bytes (goal.at.returns-then-has_letters c).After-shared_slice_known-1) (ap some (sym is) ∙ number (goal.at.returns-then-has_letters c).In_ok-letters) (sym c.has_letters.ensures ∙ c.if-has_letters.true) in
    c.count_at.ensures ∙ ap (count_answer (length l)) (sym (heading_by_letters (edition (goal.at.returns-then-has_letters c).After-shared_slice_known-1) l (drop 31 l) there))

pub returns-else-has_letters : goal.returns-else-has_letters
returns-else-has_letters c =
    let l = set (goal.at.returns-else-has_letters c).After-shared_slice_known-1 in
    let refusal = other_letters (edition (goal.at.returns-else-has_letters c).After-shared_slice_known-1) l (all_bytes (goal.at.returns-else-has_letters c).After-shared_slice_known-1) (sym c.has_letters.ensures ∙ c.if-has_letters.false) in
    rw (heading_refused (edition (goal.at.returns-else-has_letters c).After-shared_slice_known-1) l malformed refusal)

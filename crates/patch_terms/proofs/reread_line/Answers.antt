-- `reread_line` meets its contract: the line goes up to the newline and its key up to the tab, which is there.
-- ---- the tab
-- ---- the key
use Rattle.std.specs.Prelude as code
use Prim.Native.Nat.{ℕ, suc, ◌+◌, ◌-◌, ◌≤◌, ◌<◌}
use mathlib.Core.Path.{◌≡◌, sym, ap, ap₂, ◌∙◌}
use mathlib.Core.List.{List}
use mathlib.Core.Option.{some}
use native.Mathlib.Omega.{arith}
use borrow.Author.Rules.{rules}
use lib.ListN.{length, take, drop, length-drop}
use lib.Seq.{length-take-le, take-take}
use Rattle.spec_decimal.specs.Decimal.{read_decimal}
use Rattle.spec_listing.specs.Escapes.{tab, newline}
use Rattle.spec_lists.specs.Options.{optional_of}
use Rattle.spec_lists.proofs.ListLaws.{lent_from_lem}
use Rattle.patch_terms.specs.Places.{byte_place_of, first_term_line}
use Rattle.patch_terms.specs.PlacesLaws.{byte_place_of_within}
use Rattle.patch_terms.specs.Answers.{line_ok, line_to, term_answer, HoldsTerm}
use Rattle.patch_terms.specs.AnswersLaws.{known_tab, known_key}
use Rattle.patch_terms.proofs.reread_line.Goals as goal
use Rattle.patch_terms.proofs.reread_line.Goals.{After-place_of, After-place_of-2, After-read_u64, After-unwrap-key}

abbrev at : After-place_of → ℕ
at k = k.args.at

-- the list from the position on
abbrev bytes : After-place_of → List ℕ
bytes k = drop (at k) k.args.list.now

abbrev line : After-place_of → List ℕ
line k = first_term_line (bytes k)

place : (k : After-place_of) → k.place_of.result ≡ byte_place_of newline (bytes k)
place k = k.place_of.ensures.place ∙ ap (byte_place_of newline) (lent_from_lem k.args.list.now (at k))

within : (k : After-place_of) → at k + k.place_of.result ≤ length k.args.list.now
within k = omega (arith, place k, byte_place_of_within newline (bytes k), length-drop (at k) k.args.list.now, k.requires.0)

long : (k : After-place_of) → length (line k) ≡ k.place_of.result
long k = length-take-le (byte_place_of newline (bytes k)) (bytes k) (byte_place_of_within newline (bytes k)) ∙ sym (place k)

abbrev holds : (k : After-place_of) → HoldsTerm (bytes k)
holds k = k.requires.1

tab-at : (k : After-place_of-2) → k.place_of-2.result ≡ byte_place_of tab (line (goal.at.After-place_of-2 k).After-place_of)
tab-at k =
    let size : at (goal.at.After-place_of-2 k).After-place_of + k.place_of.result - at (goal.at.After-place_of-2 k).After-place_of ≡ byte_place_of newline (bytes (goal.at.After-place_of-2 k).After-place_of) = omega (arith, place (goal.at.After-place_of-2 k).After-place_of) in
    k.place_of-2.ensures.place ∙ ap (λ (n : ℕ). byte_place_of tab (take n (bytes (goal.at.After-place_of-2 k).After-place_of))) size

before-end : (k : After-place_of-2) → k.place_of-2.result < k.place_of.result
before-end k =
    omega (arith, tab-at k, known_tab (line (goal.at.After-place_of-2 k).After-place_of) (holds (goal.at.After-place_of-2 k).After-place_of).key (holds (goal.at.After-place_of-2 k).After-place_of).start (holds (goal.at.After-place_of-2 k).After-place_of).is, long (goal.at.After-place_of-2 k).After-place_of)

spelled : (k : After-read_u64) → optional_of k.read_u64.result ≡ some (holds (goal.at.After-read_u64 k).After-place_of).key
spelled k =
    let size : at (goal.at.After-read_u64 k).After-place_of + k.place_of-2.result - at (goal.at.After-read_u64 k).After-place_of ≡ byte_place_of tab (line (goal.at.After-read_u64 k).After-place_of) = omega (arith, tab-at (goal.at.After-read_u64 k).After-place_of-2) in
    let same = sym (take-take (byte_place_of tab (line (goal.at.After-read_u64 k).After-place_of)) (byte_place_of newline (bytes (goal.at.After-read_u64 k).After-place_of)) (bytes (goal.at.After-read_u64 k).After-place_of) (omega (arith, tab-at (goal.at.After-read_u64 k).After-place_of-2, before-end (goal.at.After-read_u64 k).After-place_of-2, place (goal.at.After-read_u64 k).After-place_of))) in
    k.read_u64.ensures ∙ ap (λ (n : ℕ). read_decimal (take n (bytes (goal.at.After-read_u64 k).After-place_of))) size ∙ ap read_decimal same ∙ (known_key (line (goal.at.After-read_u64 k).After-place_of) (holds (goal.at.After-read_u64 k).After-place_of).key (holds (goal.at.After-read_u64 k).After-place_of).start (holds (goal.at.After-read_u64 k).After-place_of).is).0

there : (o : code.Option ℕ) (k : ℕ) → optional_of o ≡ some k → o ≡ code.Some k
there code.None k e = absurd (let z : ◌≡◌ {A = ℕ} 0 1 = cc in omega arith)
there (code.Some n) k e = let same : n ≡ k = cc in ap code.Some same

-- the text starts within the line
short : (c : After-unwrap-key) → at (goal.at.After-unwrap-key c).After-place_of + c.place_of-2.result + 1 ≤ at (goal.at.After-unwrap-key c).After-place_of + c.place_of.result
short c = omega (arith, before-end (goal.at.After-unwrap-key c).After-place_of-2)

pub overflow_sub-result : goal.overflow_sub-result
overflow_sub-result c = short c

pub returns : goal.returns
returns c =
    let h = holds (goal.at.returns c).After-place_of in
    let told : code.Some c.unwrap-key.result ≡ code.Some h.key = sym c.unwrap-key.ensures ∙ there _ _ (spelled (goal.at.returns c).After-read_u64) in
    let key : c.unwrap-key.result ≡ h.key = cc in
    let starts : at (goal.at.returns c).After-place_of + c.place_of-2.result + 1 ≡ at (goal.at.returns c).After-place_of + h.start = omega (arith, tab-at (goal.at.returns c).After-place_of-2, (known_key (line (goal.at.returns c).After-place_of) h.key h.start h.is).1) in
    let ends : at (goal.at.returns c).After-place_of + c.place_of.result ≡ at (goal.at.returns c).After-place_of + length (line (goal.at.returns c).After-place_of) = ap (λ (n : ℕ). at (goal.at.returns c).After-place_of + n) (sym (long (goal.at.returns c).After-place_of)) in
    (λ i. line_ok (key i) (starts i) (ends i - starts i) (ends i + 1))
    ∙ sym (ap (line_to (at (goal.at.returns c).After-place_of) (at (goal.at.returns c).After-place_of + length (line (goal.at.returns c).After-place_of))) h.is)

pub unwrap-key-requires : goal.unwrap-key-requires
unwrap-key-requires c = rw (there _ _ (spelled (goal.at.unwrap-key-requires c).After-read_u64))

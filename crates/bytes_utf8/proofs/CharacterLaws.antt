-- The character that a text begins with: what follows it decides the text, and it counts as one. Where there is none the text is not UTF-8.
use Prim.Native.Nat.{ℕ, zero, suc, ◌+◌, ◌-◌, ◌≤◌, ◌<◌, zero-le}
use mathlib.Core.Path.{◌≡◌, refl, sym, ap, ◌∙◌}
use mathlib.Core.Bool.{Bool, true, false, ◌&&◌, and-true, false≢true}
use mathlib.Core.List.{List, [], ◌∷◌}
use native.Mathlib.Nat.{zero-add, add-zero}
use native.Mathlib.Omega.{arith}
use lib.Dec.{leb}
use lib.ListN.{length, drop, get_or, replicate, length-drop, length-replicate}
use lib.Seq.{drop-cons, drop-nil, drop-drop, get_or-drop}
use borrow.Author.Tests.{le-leb}
use Rattle.std.specs.Prelude.{Some, None, if◌then◌else◌}
use Rattle.spec_lists.proofs.ListLaws.{and_left, and_right, test_cases}
use Rattle.spec_text.specs.Syntax.{Range, tail, inside, sequences, After, expects, refused, lead, advance, is_utf8_after, is_utf8, characters}
use Rattle.spec_text.proofs.SyntaxLaws.{refused_stays}
use Rattle.spec_text.proofs.SequenceLaws.{counted_from}
use Rattle.bytes_utf8.specs.Classes.{class_of, IsTailClass, tails, sequence, after_class}
use Rattle.bytes_utf8.specs.Characters.{matches, length_after, character_length, if_any}
use Rattle.bytes_utf8.proofs.TableLaws.{tail_class, lead_class}

-- Octets are read up to a rest of theirs: the rest decides, and one character is counted before it.
pub record ReadTo (a : After) (bs rest : List ℕ) : Type 0 where
  pub same_utf8 : is_utf8_after a bs ≡ is_utf8 rest
  pub same_count : counted_from a bs ≡ 1 + characters rest

matched : (rs : List Range) (bs : List ℕ) → matches rs bs ≡ true → (length rs ≤ length bs) × ReadTo (expects rs) bs (drop (length rs) bs)
unfolding matches
matched [] bs e = (zero-le, record { same_utf8 = refl; same_count = refl })
matched (r ∷ rs) [] e = absurd (false≢true e)
matched (r ∷ rs) (b ∷ bs) e =
    let i : inside r b ≡ true = and_left (inside r b) (matches rs bs) e in
    let step : advance (expects (r ∷ rs)) b ≡ expects rs = rw i in
    let later = matched rs bs (and_right (inside r b) (matches rs bs) e) in (
      omega arith,
      record {
        same_utf8 = ap (λ (a : After). is_utf8_after a bs) step ∙ later.1.same_utf8;
        same_count = zero-add _ ∙ ap (λ (a : After). counted_from a bs) step ∙ later.1.same_count;
      },
    )

unmatched : (rs : List Range) (bs : List ℕ) → matches rs bs ≡ false → is_utf8_after (expects rs) bs ≡ false
unfolding matches
unmatched [] bs e = absurd (false≢true (sym e))
unmatched (r ∷ rs) [] e = refl
unmatched (r ∷ rs) (b ∷ bs) e = go (inside r b) (unmatched rs bs) e
  where
    go : (t : Bool) → (matches rs bs ≡ false → is_utf8_after (expects rs) bs ≡ false) → (t && matches rs bs) ≡ false
        → is_utf8_after (if t then expects rs else refused) bs ≡ false
    go true later e = later e
    go false later e = refused_stays bs

-- ---- the octets at a position

pub matches_past : (r : Range) (rs : List Range) (text : List ℕ) (at : ℕ) → length text ≤ at → matches (r ∷ rs) (drop at text) ≡ false
unfolding matches
matches_past r rs [] at h = rw (drop-nil at)
matches_past r rs (b ∷ bs) zero h = absurd (omega arith)
matches_past r rs (b ∷ bs) (suc at) h = matches_past r rs bs at (omega arith)

-- one octet by itself
matches_one : (r : Range) (text : List ℕ) (at : ℕ) → at < length text → matches (r ∷ []) (drop at text) ≡ inside r (get_or text at 0)
unfolding matches
matches_one r text at h = rw (drop-cons text at 0) (and-true (inside r (get_or text at 0)))

-- a byte of one of the classes low to high
pub tail_at : (text : List ℕ) (at low high class : ℕ) → at < length text → get_or text at 0 < 256 → IsTailClass low → IsTailClass high
    → class ≡ class_of (get_or text at 0) → matches (tails low high ∷ []) (drop at text) ≡ (leb low class && leb class high)
tail_at text at low high class h b l g e = matches_one (tails low high) text at h ∙ tail_class (get_or text at 0) low high b l g ∙ rw e

-- the first octet, and those after it
matches_first : (r : Range) (rs : List Range) (bs : List ℕ) → matches (r ∷ rs) bs ≡ (matches (r ∷ []) bs && matches rs (drop 1 bs))
unfolding matches
matches_first r rs [] = refl
matches_first r rs (b ∷ bs) = go (inside r b)
  where
    go : (t : Bool) → (t && matches rs bs) ≡ ((t && true) && matches rs bs)
    go true = refl
    go false = refl

-- The octets from a position on, by a test v of the first of them whose outcome is t.
pub matches_told : (r : Range) (rs : List Range) (text : List ℕ) (at : ℕ) (t : Bool) {v : Bool} → v ≡ matches (r ∷ []) (drop at text) → v ≡ t
    → matches (r ∷ rs) (drop at text) ≡ (t && matches rs (drop (at + 1) text))
matches_told r rs text at t e f = matches_first r rs (drop at text) ∙ rw (drop-drop 1 at text, sym e ∙ f)

-- likewise the tails of a sequence of n octets from octet i on
pub tails_told : (text : List ℕ) (n i : ℕ) (t : Bool) {v : Bool} → i < n → v ≡ matches (tails 1 3 ∷ []) (drop i text) → v ≡ t
    → matches (replicate (n - i) tail) (drop i text) ≡ (t && matches (replicate (n - (i + 1)) tail) (drop (i + 1) text))
tails_told text n i t h e f =
    let s : n - i ≡ suc (n - (i + 1)) = omega arith in
    rw s (matches_told tail (replicate (n - (i + 1)) tail) text i t e f)

-- ---- a length that may be none

pub found_length : (n m : ℕ) → Some n ≡ if_any m → (n ≡ m) × (n ≡ 0 → ⊥)
found_length n zero e = cc
found_length n (suc m) e = let same : n ≡ suc m = cc in (same, λ z. omega (arith, same))

pub no_length : (m : ℕ) → None ≡ if_any m → 0 ≡ m
no_length zero e = refl
no_length (suc m) e = cc

pub some_length : (n : ℕ) {m : ℕ} → 2 ≤ n → n ≡ m → Some n ≡ if_any m
some_length zero h e = absurd (omega arith)
some_length (suc n) h e = ap if_any e

-- the length of a sequence that is there, and of one that is not
pub sequence_there : (low high n : ℕ) (bs : List ℕ) → 2 ≤ n → matches (tails low high ∷ replicate (n - 2) tail) bs ≡ true → n ≡ length_after (sequence low high n) bs
unfolding length_after
sequence_there low high n bs l e = rw (e, length-replicate (n - 2) tail) (omega arith)

pub sequence_missing : (low high n : ℕ) (bs : List ℕ) → matches (tails low high ∷ replicate (n - 2) tail) bs ≡ false → 0 ≡ length_after (sequence low high n) bs
unfolding length_after
sequence_missing low high n bs e = rw e

-- ---- the first character of a text

-- what a length that is not 0 tells, and the length 0
after_read : (a : After) (b : ℕ) (bs : List ℕ) (n : ℕ) → length_after a bs ≡ n → (n ≡ 0 → ⊥) → (n ≤ suc (length bs)) × ReadTo a bs (drop n (b ∷ bs))
unfolding length_after
after_read refused b bs n e ne = absurd (ne (sym e))
after_read (expects rs) b bs n e ne = test_cases (matches rs bs) read (λ f. absurd (ne (sym (rw f at e))))
  where
    read : matches rs bs ≡ true → (n ≤ suc (length bs)) × ReadTo (expects rs) bs (drop n (b ∷ bs))
    read m =
        let k : n ≡ suc (length rs) = sym (rw m at e) in
        let r = matched rs bs m in
        rw k (omega (arith, r.0), r.1)

after_refused : (a : After) (bs : List ℕ) → length_after a bs ≡ 0 → is_utf8_after a bs ≡ false
unfolding length_after
after_refused refused bs e = refused_stays bs
after_refused (expects rs) bs e =
    test_cases (matches rs bs) (λ m. let z : suc (length rs) ≡ 0 = rw m at e in absurd (omega arith)) (unmatched rs bs)

-- A character of n octets, and then a text: the text decides, and the character counts as one.
pub character_read : (text : List ℕ) (n : ℕ) → character_length text ≡ n → (n ≡ 0 → ⊥)
    → (n ≤ length text) × (is_utf8 text ≡ is_utf8 (drop n text)) × (characters text ≡ 1 + characters (drop n text))
unfolding character_length
character_read [] n e ne = absurd (ne (sym e))
character_read (b ∷ bs) n e ne =
    let r = after_read (lead sequences b) b bs n e ne in
    (r.0, r.1.same_utf8, r.1.same_count)

pub character_refused : (text : List ℕ) → 0 < length text → character_length text ≡ 0 → is_utf8 text ≡ false
unfolding character_length
character_refused [] h e = absurd (omega arith)
character_refused (b ∷ bs) h e = after_refused (lead sequences b) bs e

-- A byte below 0x80 is a character by itself.
pub character_ascii : (text : List ℕ) → 0 < length text → get_or text 0 0 < 0x80 → character_length text ≡ 1
unfolding character_length length_after matches
character_ascii [] h a = absurd (omega arith)
character_ascii (b ∷ bs) h a = rw (le-leb 0 b zero-le, le-leb b 0x7f (omega arith))

-- The class of the first byte says what follows it.
pub character_class : (text : List ℕ) (class : ℕ) → 0 < length text → get_or text 0 0 < 256 → class ≡ class_of (get_or text 0 0)
    → character_length text ≡ length_after (after_class class) (drop 1 text)
unfolding character_length
character_class [] class h l e = absurd (omega arith)
character_class (b ∷ bs) class h l e = rw (e, lead_class b l)

-- The same of the first byte at a position.
pub character_at : (text : List ℕ) (at class : ℕ) → at < length text → get_or text at 0 < 256 → class ≡ class_of (get_or text at 0)
    → character_length (drop at text) ≡ length_after (after_class class) (drop 1 (drop at text))
character_at text at class h l e =
    character_class (drop at text) class (rw (length-drop at text) (omega arith)) (rw (get_or-drop at text 0 0, add-zero) l) (rw (get_or-drop at text 0 0, add-zero) e)

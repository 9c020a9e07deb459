-- What an answer says of the bytes, once for every width; and that reading gives back what was written.
use Rattle.std.specs.Prelude.{ℕ, ◌+◌, ◌-◌, ◌/◌, ◌^◌, ◌≤◌, ◌<◌, Bool, List, [], ◌∷◌, ◌++◌, ℤ, length, take, drop, if◌then◌else◌, slice_range}
use Rattle.std.specs.Prelude.{suc}
use Rattle.std.specs.Prelude as code
use Rattle.std.specs.Array.{IsFirstChunk}
use Rattle.std.specs.Slice.{IsItemAt}
use Rattle.std.proofs.Math.Path.{◌≡◌, refl}
use Rattle.std.proofs.Common.{sym, ap, ap₂, ◌∙◌, arith, length-append, take-append-drop, take_at, drop-drop, length-take-le, to_z}
use Rattle.std.proofs.Math.Bool.{true, false}
use Rattle.std.proofs.Math.Option.{none, some, map-eq-some_iff, map-eq-none_iff}
use borrow.Author.Tests.{leb-true, leb-false, le-leb, lt-leb}
use Rattle.std.proofs.Math.Dec.{leb}
use Rattle.std.proofs.Math.ListN.{length-drop}
use Rattle.std.proofs.Math.Seq.{drop-cons}
use Rattle.std.proofs.lemmas.List.{take_all}
use Rattle.std.proofs.Common.{Bor}
use Rattle.std.specs.Option.{option_copied}
use Rattle.spec_lists.specs.Options.{optional_of}
use Rattle.std.specs.Int.{w32, w64, from_le_bytes, to_le_bytes}
use Rattle.spec_lists.specs.Bytes.{Bytes, little_endian, number_of}
use Rattle.spec_lists.proofs.BytesLaws.{bytes_take, bytes_drop, length_little_endian, number_of_lt, number_of_little_endian, little_endian_number_of}
use Rattle.bytes_wire.specs.Read.{first_number, first_signed}

-- ---- the answer at a position

module _ (l : List ℕ) (at n : ℕ) where
  -- there are n bytes from index at on, and they spell x
  pub record SpelledAt (x : ℕ) : Type 0 where
    pub room : n ≤ length l - at
    pub enough : leb n (length (drop at l)) ≡ true
    pub number : number_of (take n (drop at l)) ≡ x

  pub number_at : (x : ℕ) → first_number n (drop at l) ≡ some x → SpelledAt x
  unfolding first_number
  number_at x e = go (leb n (length (drop at l))) refl e
    where
      go : (t : Bool) → leb n (length (drop at l)) ≡ t → (if t then some (number_of (take n (drop at l))) else none) ≡ some x → SpelledAt x
      go true is q = record { room = omega (arith, leb-true n (length (drop at l)) is, length-drop at l); enough = is; number = cc }
      go false is q = absurd (let z : ◌≡◌ {A = ℕ} 0 1 = cc in omega arith)

  module _ {x : ℕ} (read : SpelledAt x) (all : Bytes l) where
    front_long : length (take n (drop at l)) ≡ n
    front_long = length-take-le n (drop at l) (omega (arith, read.room, length-drop at l))

    front_bytes : Bytes (take n (drop at l))
    front_bytes = bytes_take n (drop at l) (bytes_drop at l all)

    pub number_small : x < 256 ^ n
    number_small = rw (← read.number) (number_of_lt n (take n (drop at l)) front_bytes (omega (arith, front_long)))

    -- the bytes are those of x, with the rest behind them
    pub number_bytes : drop at l ≡ little_endian n x ++ drop (at + n) l
    number_bytes =
        sym (take-append-drop n (drop at l))
        ∙ ap₂ (λ (a b : List ℕ). a ++ b)
        (sym (little_endian_number_of (take n (drop at l)) front_bytes) ∙ ap₂ little_endian front_long read.number)
        (drop-drop n at l)

  -- there are fewer than n bytes from index at on
  pub record ShortAt : Type 0 where
    pub none_left : length l - at < n
    pub too_few : leb n (length (drop at l)) ≡ false

  pub short_at : first_number n (drop at l) ≡ none → ShortAt
  unfolding first_number
  short_at e = go (leb n (length (drop at l))) refl e
    where
      go : (t : Bool) → leb n (length (drop at l)) ≡ t → (if t then some (number_of (take n (drop at l))) else none) ≡ none → ShortAt
      go true is q = absurd (let z : ◌≡◌ {A = ℕ} 0 1 = cc in omega arith)
      go false is q = record { none_left = omega (arith, leb-false n (length (drop at l)) is, length-drop at l); too_few = is }

-- ---- the library's numbers of four and of eight bytes

number_of_four : (bs : List ℕ) → length bs ≡ 4 → from_le_bytes w32 bs ≡ number_of bs
unfolding number_of
number_of_four (a ∷ b ∷ c ∷ d ∷ []) e = omega arith
number_of_four bs e = absurd (omega arith)

number_of_eight : (bs : List ℕ) → length bs ≡ 8 → from_le_bytes w64 bs ≡ number_of bs
unfolding number_of
number_of_eight (a ∷ b ∷ c ∷ d ∷ e ∷ f ∷ g ∷ h ∷ []) q = omega arith
number_of_eight bs q = absurd (omega arith)

first_of_one : (b : ℕ) (bs : List ℕ) → first_number 1 (b ∷ bs) ≡ some b
unfolding first_number number_of
first_of_one b bs = rw (le-leb 1 (length (b ∷ bs)) (omega arith)) (ap some (omega arith))

module _ (l : List ℕ) (at : ℕ) where
  pub none_beyond : (n : ℕ) → length l - at < n → first_number n (drop at l) ≡ none
  unfolding first_number
  none_beyond n h = rw (lt-leb n (length (drop at l)) (omega (arith, length-drop at l)))

  -- the first n bytes of what stands from index at on, as the library hands them out
  chunk_number : (n : ℕ) {part bs : List ℕ} → part ≡ slice_range l at (length l) → IsFirstChunk part bs n → (length bs ≡ n) × (first_number n (drop at l) ≡ some (number_of bs))
  unfolding first_number
  chunk_number n {part} {bs} from chunk =
      let whole : part ≡ drop at l = from ∙ take_all (length l - at) (drop at l) (omega (arith, length-drop at l)) in
      let enough : n ≤ length (drop at l) = rw whole at chunk.enough in
      let front : take n (drop at l) ≡ bs = ap (take n) (sym whole) ∙ sym chunk.same in
      (sym (ap length front) ∙ length-take-le n (drop at l) enough, rw (le-leb n (length (drop at l)) enough, front))

  pub four_at : {part bs : List ℕ} → part ≡ slice_range l at (length l) → IsFirstChunk part bs 4 → some (from_le_bytes w32 bs) ≡ first_number 4 (drop at l)
  four_at from chunk = let found = chunk_number 4 from chunk in ap some (number_of_four _ found.0) ∙ sym found.1

  pub eight_at : {part bs : List ℕ} → part ≡ slice_range l at (length l) → IsFirstChunk part bs 8 → some (from_le_bytes w64 bs) ≡ first_number 8 (drop at l)
  eight_at from chunk = let found = chunk_number 8 from chunk in ap some (number_of_eight _ found.0) ∙ sym found.1

  -- the first byte, as the library hands it out
  pub one_at : (r : code.Option (Bor ℕ)) → IsItemAt l at r → optional_of (option_copied r) ≡ first_number 1 (drop at l)
  one_at (code.Some x) h =
      let here : drop at l ≡ x.now ∷ drop (suc at) l = drop-cons l at x.now h.3.0 ∙ ap (λ (b : ℕ). b ∷ drop (suc at) l) (sym h.1) in
      sym (rw here (first_of_one x.now (drop (suc at) l)))
  one_at code.None h = sym (none_beyond 1 (omega (arith, h.3)))

pub four_bytes : (x : ℕ) → to_le_bytes w32 x ≡ little_endian 4 x
unfolding little_endian
four_bytes x =
    let b : x / 65536 ≡ x / 256 / 256 = omega arith in
    let c : x / 16777216 ≡ x / 256 / 256 / 256 = omega arith in
    cc

pub eight_bytes : (x : ℕ) → to_le_bytes w64 x ≡ little_endian 8 x
unfolding little_endian
eight_bytes x =
    let b : x / 65536 ≡ x / 256 / 256 = omega arith in
    let c : x / 16777216 ≡ x / 65536 / 256 = omega arith in
    let d : x / 4294967296 ≡ x / 16777216 / 256 = omega arith in
    let e : x / 1099511627776 ≡ x / 4294967296 / 256 = omega arith in
    let f : x / 281474976710656 ≡ x / 1099511627776 / 256 = omega arith in
    let g : x / 72057594037927936 ≡ x / 281474976710656 / 256 = omega arith in
    cc

-- ---- the same of an i64

-- eight bytes stand there, and they are the two's complement of z
pub record SignedAt (l : List ℕ) (at : ℕ) (z : ℤ) : Type 0 where
  pub bits : ℕ
  pub read : SpelledAt l at 8 bits
  pub is : to_z w64 bits ≡ z

pub signed_at : (l : List ℕ) (at : ℕ) (z : ℤ) → first_signed (drop at l) ≡ some z → SignedAt l at z
unfolding first_signed
signed_at l at z e =
    let found = (map-eq-some_iff (to_z w64) (first_number 8 (drop at l))).0 e in
    record { bits = found.0; read = number_at l at 8 found.0 found.1; is = found.2 }

pub signed_short_at : (l : List ℕ) (at : ℕ) → first_signed (drop at l) ≡ none → ShortAt l at 8
unfolding first_signed
signed_short_at l at e = short_at l at 8 ((map-eq-none_iff (to_z w64) (first_number 8 (drop at l))).0 e)

-- ---- reading gives back what was written

pub first_of_little_endian : (n x : ℕ) (rest : List ℕ) → x < 256 ^ n → first_number n (little_endian n x ++ rest) ≡ some x
unfolding first_number
first_of_little_endian n x rest h =
    let long = length_little_endian n x in
    rw (le-leb n (length (little_endian n x ++ rest)) (omega (arith, length-append (little_endian n x) rest)), take_at (little_endian n x) rest n long, number_of_little_endian n x h)

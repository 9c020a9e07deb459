-- Reading from the start of a list of bytes: what was read with the bytes that are left, or the fault that ended the reading.
-- Each way of putting readers together is defined here, and has its law in `Codec`.
use Rattle.std.specs.Prelude.{ℕ, zero, suc, ◌≡◌, List, [], ◌∷◌, Bool, length, take, drop, leb, eqb, if◌then◌else◌}
use Rattle.spec_lists.specs.Bytes.{number_of}

-- why bytes are not read
pub data Fault : Type 0 where
  malformed over_capacity : Fault

-- 01's number of each fault in reading
unfoldable pub fault_number : Fault → ℕ
fault_number malformed = 10
fault_number over_capacity = 12

-- a value and the bytes behind it, or the first fault
pub data Result (A : Type 0) : Type 0 where
  read : A → List ℕ → Result A
  refused : Fault → Result A

abbrev pub Reader : Type 0 → Type 0
Reader A = List ℕ → Result A

module _ {A B : Type 0} where
  -- what follows a reading; a fault ends it
  abbrev pub onward : Result A → (A → Reader B) → Result B
  onward (read a rest) f = f a rest
  onward (refused fault) f = refused fault

  -- one reader, then another, which may depend on what the first has read
  abbrev pub followed : Reader A → (A → Reader B) → Reader B
  followed p f bs = onward (p bs) f

  -- what was read, as another type
  abbrev pub mapped : (A → B) → Reader A → Reader B
  mapped f p = followed p (λ a rest. read (f a) rest)

module _ {A B : Type 0} where
  -- both, one after the other
  abbrev pub pair : Reader A → Reader B → Reader (A × B)
  pair p q = followed p (λ a. followed q (λ b rest. read (a, b) rest))

module _ {A : Type 0} where
  -- a fault, where the test fails of what was read
  abbrev pub checked : (A → Bool) → Fault → Reader A → Reader A
  checked ok fault p = followed p (λ a rest. if ok a then read a rest else refused fault)

  -- the reader p after the tag k, and the readers f after any other
  abbrev pub or_tag : ℕ → Reader A → (ℕ → Reader A) → ℕ → Reader A
  or_tag k p f t bs = if eqb t k then p bs else f t bs

  -- any other tag is malformed
  abbrev pub no_tag : ℕ → Reader A
  no_tag t bs = refused malformed

  -- n readings, one after the other
  unfoldable pub many : ℕ → Reader A → Reader (List A)
  many zero p bs = read [] bs
  many (suc n) p bs = onward (p bs) (λ a rest. onward (many n p rest) (λ more rest'. read (a ∷ more) rest'))

-- nothing is read
abbrev pub nothing : Reader (Unit {0})
nothing bs = read tt bs

-- one byte; too few bytes are malformed, here and below
abbrev pub byte : Reader ℕ
byte [] = refused malformed
byte (b ∷ bs) = read b bs

-- n bytes as they are
abbrev pub bytes : ℕ → Reader (List ℕ)
bytes n bs = if leb n (length bs) then read (take n bs) (drop n bs) else refused malformed

-- a number of n bytes
abbrev pub number : ℕ → Reader ℕ
number n bs = if leb n (length bs) then read (number_of (take n bs)) (drop n bs) else refused malformed

-- just these bytes
unfoldable pub literal : List ℕ → Reader (Unit {0})
literal [] bs = read tt bs
literal (x ∷ xs) bs = onward (byte bs) (λ b rest. if eqb b x then literal xs rest else refused malformed)

-- what the first reader reads, the second reads alike
pub record Kept {A : Type 0} (p q : Reader A) : Type 0 where
  pub reads : (bs : List ℕ) (a : A) (rest : List ℕ) → p bs ≡ read a rest → q bs ≡ read a rest

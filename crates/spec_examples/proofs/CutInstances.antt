-- Texts cut off, 02, 'Job 6', at its ends: one table of computed tests, as they are read now and as they were, and a set that the theorem on
-- what has changed is about.
use Rattle.std.specs.Prelude.{ℕ, ◌+◌, ◌-◌, ◌≡◌, refl, Bool, ◌&&◌, T, eqb, length, take, drop, replicate}
use mathlib.Core.List.{List, [], ◌∷◌, ◌++◌, flat_map}
use Rattle.spec_lists.specs.Lists.{all}
use Rattle.spec_lists.specs.Bytes.{Bytes}
use Rattle.spec_lists.proofs.BytesLaws.{bytes_if}
use Rattle.spec_patch.specs.Edition.{v1}
use Rattle.spec_patch.specs.Encode.{u32, heading, encode}
use Rattle.spec_patch.specs.Reader.{malformed, over_capacity, fault_number}
use Rattle.spec_patch.specs.Read.{SetReading, patches, fault, read_set}
use Rattle.spec_patch.specs.LengthFirst.{length_first_text, length_first_set}
use Rattle.spec_examples.proofs.TextInstances.{updating}
use Rattle.spec_examples.specs.Opened.{opened_all}

-- ---- what the instances are made of

-- so many letters
letters : ℕ → List ℕ
letters k = replicate k 0x61

-- a set without its last bytes
but : ℕ → List ℕ → List ℕ
but k bs = take (length bs - k) bs

-- one update with a text of length n as its last field, with these bytes behind it
ending : ℕ → List ℕ → List ℕ
ending n behind = but 4 (encode v1 (updating ([] ∷ []))) ++ (u32 n ++ behind)

-- two updates, the first with a text of length n; behind it stand k bytes, which are the second's
amid : ℕ → ℕ → List ℕ
amid n k = but (k + 4) set ++ (u32 n ++ drop (length set - k) set)
  where
    set : List ℕ
    set = encode v1 (updating ([] ∷ letters (k - 22) ∷ []))

-- 0, or the number of the fault
number_for : SetReading → ℕ
number_for (patches ps) = 0
number_for (fault f) = fault_number f

-- these are the answers now and before
answers : ℕ → ℕ → List ℕ → Bool
answers now before bs = eqb (number_for (read_set v1 bs)) now && eqb (number_for (length_first_set v1 bs)) before

-- ---- the instances

-- a length over 240, with no bytes behind it, and with one too few: 10, and 12 before
pub cut_off_ones : Bool
cut_off_ones =
    all (answers 10 12)
    (ending 241 [] ∷ ending 241 (letters 240) ∷ ending 1000 [] ∷ ending 1000 (letters 999) ∷ ending 4294967295 [] ∷ ending 4294967295 (letters 300) ∷ [])

-- with as many as it names, and one more: 12 as before
pub too_long_ones : Bool
too_long_ones = all (answers 12 12) (ending 241 (letters 241) ∷ ending 241 (letters 242) ∷ ending 1000 (letters 1000) ∷ ending 1000 (letters 1001) ∷ [])

-- a length of at most 240 with one byte too few is 10 as before, and with all of them passes
pub short_ones : Bool
short_ones = all (answers 10 10) (ending 1 [] ∷ ending 160 (letters 159) ∷ ending 240 (letters 239) ∷ []) && answers 0 0 (ending 160 (letters 160))

-- the bytes of what follows remain too: 240 of them are too few for 241, and 241 are enough
pub middle_ones : Bool
middle_ones = all (answers 10 12) (amid 241 22 ∷ amid 241 240 ∷ amid 1000 240 ∷ []) && all (answers 12 12) (amid 241 241 ∷ amid 241 242 ∷ [])

-- counts over their capacity are 12 with nothing behind them: 65 patches, and 129 operations
pub count_ones : Bool
count_ones = all (answers 12 12) ((heading v1 ++ u32 65) ∷ (but 26 (encode v1 (updating ([] ∷ []))) ++ u32 129) ∷ [])

pub cuts_hold : T (all (λ (b : Bool). b) (cut_off_ones ∷ too_long_ones ∷ short_ones ∷ middle_ones ∷ count_ones ∷ []))
unfolding cut_off_ones too_long_ones short_ones middle_ones count_ones letters but ending amid number_for answers length_first_text length_first_set updating flat_map opened_all
cuts_hold = tt

-- ---- the theorem on what has changed, met by a set

pub cut_set : List ℕ
cut_set = ending 241 (letters 240)

pub was_12 : length_first_set v1 cut_set ≡ fault over_capacity
unfolding cut_set letters but ending length_first_text length_first_set updating flat_map opened_all
was_12 = refl

pub is_10 : read_set v1 cut_set ≡ fault malformed
unfolding cut_set letters but ending updating flat_map opened_all
is_10 = refl

pub all_bytes : Bytes cut_set
unfolding cut_set letters but ending updating flat_map opened_all
all_bytes = bytes_if (ending 241 (letters 240)) refl

-- Conversions at their ends, 02, 'Job 13': one table of computed tests, and sets that the theorems are about.
use Rattle.std.specs.Prelude.{ℕ, ◌≡◌, refl, Bool, false, not, ◌&&◌, List, [], ◌∷◌, ◌++◌, T, eqb}
use Rattle.std.proofs.Math.Option.{none}
use Rattle.spec_patch.specs.Opened.{opened_sets}
use Rattle.spec_lists.specs.Lists.{all, equal_lists}
use Rattle.spec_lists.specs.Bytes.{Bytes}
use Rattle.spec_lists.proofs.BytesLaws.{bytes_if}
use Rattle.spec_patch.specs.Patch.{Value, quad, N, text, score, set_binding, insert, update, Patch}
use Rattle.spec_patch.specs.Edition.{Edition, v1, v2}
use Rattle.spec_patch.specs.Encode.{u32, heading, encode}
use Rattle.spec_conversion.specs.Conversion
use Rattle.spec_conversion.specs.Conversion.{Converted, converted, refused, conversion_number, convert, without_scores}
use Rattle.spec_conversion.proofs.ConversionLaws.{Convertible, converts_exactly}

-- every definition that the tests compute through
unfoldable opened : Unit {0}
unfolding opened_sets
    Rattle.spec_conversion.specs.Conversion.other_edition
    Rattle.spec_conversion.specs.Conversion.conversion_number
    Rattle.spec_conversion.specs.Conversion.unread
    Rattle.spec_conversion.specs.Conversion.all_kinds
    Rattle.spec_conversion.specs.Conversion.rewritten
    Rattle.spec_conversion.specs.Conversion.convert_to
    Rattle.spec_conversion.specs.Conversion.convert
    Rattle.spec_conversion.specs.Conversion.is_score
    Rattle.spec_conversion.specs.Conversion.without_scores
opened = tt

-- ---- what the instances are made of

-- one patch with a binding, an insert and an update, the last with this value
ending : Value → List Patch
ending v = record {
  envelope = record { id = 1; stream = 1; document = 1; surface = none; previous = 1; revision = 2; epoch = 1; sequence = 1 };
  operations = set_binding 3 0 (quad N) ∷ insert 9 1 none (text (0x61 ∷ [])) ∷ update 9 1 v ∷ [];
} ∷ []

-- 0, or the number of the refusal
refusal_or_zero : Converted → ℕ
refusal_or_zero (converted bs) = 0
refusal_or_zero (refused r) = conversion_number r

-- the conversion of these bytes gives those
gives : Edition → List ℕ → ℕ → List ℕ → Bool
gives from set room bs = same (convert from set room)
  where
    same : Converted → Bool
    same (converted out) = equal_lists eqb out bs
    same (refused r) = false

-- the conversion of these bytes, into so many places, is refused with the number
refuses : Edition → List ℕ → ℕ → ℕ → Bool
refuses from set room number = eqb (refusal_or_zero (convert from set room)) number

-- ---- the instances

-- sets of the first edition become the second's, and back where no score occurs
pub both_ways : Bool
both_ways =
    gives v1 (encode v1 []) 35 (encode v2 [])
    && (gives v1 (encode v1 (ending (quad N))) 1000 (encode v2 (ending (quad N)))
    && (gives v2 (encode v2 []) 35 (encode v1 [])
    && gives v2 (encode v2 (ending (quad N))) 1000 (encode v1 (ending (quad N)))))

-- a score on the way to the first edition is 18, also without room
pub scores_missing : Bool
scores_missing =
    refuses v2 (encode v2 (ending (score 0))) 1000 18 && (refuses v2 (encode v2 (ending (score 100))) 1000 18 && refuses v2 (encode v2 (ending (score 0))) 0 18)

-- before that: a score above 100, a score in the first edition, and the other edition's heading are 10, and a count over its capacity is 12
pub unread_ones : Bool
unread_ones =
    refuses v2 (encode v2 (ending (score 101))) 0 10
    && (refuses v1 (encode v1 (ending (score 1))) 1000 10
    && (refuses v1 (encode v2 []) 35 10
    && (refuses v2 (encode v1 []) 35 10
    && refuses v2 (heading v2 ++ u32 65) 0 12)))

-- one place too few is 14
pub short_outputs : Bool
short_outputs = refuses v1 (encode v1 []) 34 14 && refuses v2 (encode v2 (ending (quad N))) 0 14

-- the lists of both are told apart
pub scores_seen : Bool
scores_seen = without_scores (ending (quad N)) && not (without_scores (ending (score 0)))

pub conversions_hold : T (all (λ (b : Bool). b) (both_ways ∷ scores_missing ∷ unread_ones ∷ short_outputs ∷ scores_seen ∷ []))
unfolding both_ways scores_missing unread_ones short_outputs scores_seen ending refusal_or_zero gives refuses opened
conversions_hold = tt

-- ---- the theorems, met by a set of each edition

pub some_set : Edition → List ℕ
some_set ed = encode ed (ending (quad N))

first_bytes : Bytes (some_set v1)
unfolding some_set ending opened
first_bytes = bytes_if (some_set v1) refl

second_bytes : Bytes (some_set v2)
unfolding some_set ending opened
second_bytes = bytes_if (some_set v2) refl

first_is_second : convert v1 (some_set v1) 1000 ≡ converted (some_set v2)
unfolding some_set ending opened
first_is_second = refl

second_is_first : convert v2 (some_set v2) 1000 ≡ converted (some_set v1)
unfolding some_set ending opened
second_is_first = refl

pub first_convertible : Convertible v1 v2 (some_set v1) 1000
unfolding opened
first_convertible = (converts_exactly v1 v2 (some_set v1) first_bytes 1000).0 (some_set v2, first_is_second)

pub second_convertible : Convertible v2 v1 (some_set v2) 1000
unfolding opened
second_convertible = (converts_exactly v2 v1 (some_set v2) second_bytes 1000).0 (some_set v1, second_is_first)

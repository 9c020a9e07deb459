-- The writer: 01, 'Rejections', and 02, 'Job 5' and 'Job 13': it tests 12 for the capacities, then 10, then 12 for the characters of texts, then 14.
use Rattle.std.specs.Prelude.{ℕ, Bool, true, ◌&&◌, List, leb, length, if◌then◌else◌}
use Rattle.spec_lists.specs.Lists.{all}
use Rattle.spec_patch.specs.TextRule.{few_bytes, allowed, few_characters}
use Rattle.spec_patch.specs.Sizes.{set_bytes, set_patches, patch_operations, highest_score}
use Rattle.spec_patch.specs.Patch.{Value, quad, signed, text, unsigned, score, Operation, set_binding, set_availability, insert, update, remove, move, Patch}
use Rattle.spec_patch.specs.Edition.{Edition, has_kind}
use Rattle.spec_patch.specs.Encode.{kind_of, encode}

-- why a list is not written
pub data WriteRefusal : Type 0 where
  over_capacity malformed output_too_short : WriteRefusal

-- 01's number of each refusal in writing
unfoldable pub write_number : WriteRefusal → ℕ
write_number over_capacity = 12
write_number malformed = 10
write_number output_too_short = 14

-- a test of an operation's value; an operation without one passes
unfoldable pub value_passes : (Value → Bool) → Operation → Bool
value_passes test (set_binding node slot v) = test v
value_passes test (set_availability node a) = true
value_passes test (insert c k before v) = test v
value_passes test (update c k v) = test v
value_passes test (remove c k) = true
value_passes test (move c k before) = true

-- a test of every value of a list
unfoldable pub all_values : (Value → Bool) → List Patch → Bool
all_values test ps = all (λ (p : Patch). all (value_passes test) p.operations) ps

-- a text's length is within the capacity; other values pass
unfoldable pub short_enough : Value → Bool
short_enough (quad q) = true
short_enough (signed z) = true
short_enough (text t) = few_bytes t
short_enough (unsigned x) = true
short_enough (score n) = true

-- the patch count, each operation count, each text's length and the set's bytes are within their capacities
unfoldable pub within_capacities : Edition → List Patch → Bool
within_capacities ed ps =
    leb (length ps) set_patches
    && (all (λ (p : Patch). leb (length p.operations) patch_operations) ps
    && (all_values short_enough ps
    && leb (length (encode ed ps)) set_bytes))

-- RFC 3629 allows a text, and a score is at most 100; other values pass
unfoldable pub allowed_value : Value → Bool
allowed_value (quad q) = true
allowed_value (signed z) = true
allowed_value (text t) = allowed true t
allowed_value (unsigned x) = true
allowed_value (score n) = leb n highest_score

-- a value of a kind that the edition has, and allowed
unfoldable pub well_formed : Edition → Value → Bool
well_formed ed v = has_kind ed (kind_of v) && allowed_value v

-- a text's characters are within their capacity; other values pass
unfoldable pub few_enough : Value → Bool
few_enough (quad q) = true
few_enough (signed z) = true
few_enough (text t) = few_characters true t
few_enough (unsigned x) = true
few_enough (score n) = true

-- what writing gives
pub data Written : Type 0 where
  wrote : List ℕ → Written
  refused : WriteRefusal → Written

-- the canonical bytes, into an output of so many places
unfoldable pub write : Edition → List Patch → ℕ → Written
write ed ps room =
    if within_capacities ed ps then
    (if all_values (well_formed ed) ps then
    (if all_values few_enough ps then
    (if leb (length (encode ed ps)) room then wrote (encode ed ps) else refused output_too_short)
    else refused over_capacity)
    else refused malformed)
    else refused over_capacity

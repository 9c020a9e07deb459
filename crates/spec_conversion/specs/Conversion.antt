-- Converting a set into another edition: 02, 'Job 13'. The patch list stays, and only the edition changes that it is written in.
use Rattle.std.specs.Prelude.{ℕ, Bool, true, false, not, List, leb, length, if◌then◌else◌}
use Rattle.spec_patch.specs.Patch.{Value, quad, signed, text, unsigned, score, Patch}
use Rattle.spec_patch.specs.Edition.{Edition, v1, v2, has_kind}
use Rattle.spec_patch.specs.Encode.{kind_of, encode}
use Rattle.spec_patch.specs.Reader as reader
use Rattle.spec_patch.specs.Reader.{Fault}
use Rattle.spec_patch.specs.Read.{SetReading, patches, fault, read_set}
use Rattle.spec_patch.specs.Write.{all_values}

-- the edition that sets of an edition are converted to
unfoldable pub other_edition : Edition → Edition
other_edition v1 = v2
other_edition v2 = v1

-- why a set is not converted
pub data ConversionRefusal : Type 0 where
  over_capacity malformed kind_missing output_too_short : ConversionRefusal

-- 12 and 10 are reading's, 18 a score on the way to an edition that has none, 14 an output that is too short
unfoldable pub conversion_number : ConversionRefusal → ℕ
conversion_number over_capacity = 12
conversion_number malformed = 10
conversion_number kind_missing = 18
conversion_number output_too_short = 14

-- what is not read is not converted
unfoldable pub unread : Fault → ConversionRefusal
unread reader.malformed = malformed
unread reader.over_capacity = over_capacity

-- what conversion gives
pub data Converted : Type 0 where
  converted : List ℕ → Converted
  refused : ConversionRefusal → Converted

-- the edition has the value's kind
abbrev pub kind_in : Edition → Value → Bool
kind_in ed v = has_kind ed (kind_of v)

-- and that of every value of a list
unfoldable pub all_kinds : Edition → List Patch → Bool
all_kinds ed ps = all_values (kind_in ed) ps

-- the canonical bytes of what was read, into an output of so many places: 18 comes before 14
unfoldable pub rewritten : Edition → ℕ → SetReading → Converted
rewritten to room (patches ps) =
    if all_kinds to ps then
    (if leb (length (encode to ps)) room then converted (encode to ps) else refused output_too_short)
    else refused kind_missing
rewritten to room (fault f) = refused (unread f)

-- reading's 12 and 10 come before both
unfoldable pub convert_to : (from to : Edition) → List ℕ → ℕ → Converted
convert_to from to set room = rewritten to room (read_set from set)

-- a set of an edition into the other
unfoldable pub convert : Edition → List ℕ → ℕ → Converted
convert from set room = convert_to from (other_edition from) set room

-- ---- what is asked of a set on the way to the first edition: that no value is a score

unfoldable pub is_score : Value → Bool
is_score (quad q) = false
is_score (signed z) = false
is_score (text t) = false
is_score (unsigned x) = false
is_score (score n) = true

unfoldable pub without_scores : List Patch → Bool
without_scores ps = all_values (λ (v : Value). not (is_score v)) ps

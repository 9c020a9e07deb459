-- A set that is converted into the other edition and back is the same set.
use Rattle.std.specs.Prelude.{ℕ, ◌≤◌}
use Rattle.std.proofs.Math.Path.{◌≡◌, ap}
use Rattle.std.proofs.Common.{◌∙◌}
use mathlib.Core.List.{List}
use Rattle.std.proofs.Math.ListN.{length}
use Rattle.spec_lists.specs.Bytes.{Bytes}
use Rattle.spec_patch.specs.Edition.{Edition}
use Rattle.spec_conversion.specs.Conversion.{other_edition, converted, convert_to, convert}
use Rattle.spec_conversion.proofs.ConversionLaws.{there_and_back, other_other}

-- a set that is converted into the other edition and back is the same set
pub convert_back : (from : Edition) (set : List ℕ) → Bytes set → (room : ℕ) (bs : List ℕ) → convert from set room ≡ converted bs
    → (room' : ℕ) → length set ≤ room' → convert (other_edition from) bs room' ≡ converted set
unfolding convert
convert_back from set all_bytes room bs e room' enough =
    ap (λ (ed : Edition). convert_to (other_edition from) ed bs room') (other_other from) ∙ there_and_back from (other_edition from) set all_bytes room bs e room' enough

-- What is told of a set by its bytes, whether the patch checks find anything, and the room: 12, then 11, then 14.
use Rattle.std.specs.Prelude.{ℕ, Bool, leb, Result, Ok, Err, if◌then◌else◌}
use Rattle.spec_patch.specs.Sizes.{set_bytes}
use Rattle.patch_import.specs.declared.answer.ImportRefusal.{ImportRefusal}
use Rattle.patch_import.specs.declared.answer.ImportRefusal.TheVariants.{OverCapacity, PatchInvalid, OutputTooShort}

unfoldable pub judged_patch : ℕ → Bool → ℕ → Result ℕ ImportRefusal
judged_patch size found room =
    if leb size set_bytes then
    (if found then Err PatchInvalid else
    (if leb size room then Ok size else Err OutputTooShort))
    else Err OverCapacity

-- Reading as it was before a text cut off was told from one too long: a length over the capacity was 12 at its field, whatever stood
-- behind it. All else is read as it is now: the readers over any reader of texts.
use Rattle.std.specs.Prelude.{ℕ, Bool, true, List}
use Rattle.spec_patch.specs.TextRule.{allowed, few_characters}
use Rattle.spec_patch.specs.Sizes.{text_bytes}
use Rattle.spec_patch.specs.Patch.{Value, Operation, Patch}
use Rattle.spec_patch.specs.Edition.{Edition}
use Rattle.spec_patch.specs.Reader.{malformed, over_capacity, Reader, followed, checked, byte, bytes}
use Rattle.spec_patch.specs.Read.{read_count, value_after_with, in_edition, operation_after_with, read_patch_with, read_patches_with, SetReading, read_set_with}

-- a text: its length within the capacity, then its bytes
unfoldable pub length_first_text : Bool → Reader (List ℕ)
length_first_text check =
    followed (read_count text_bytes) (λ n. checked (few_characters check) over_capacity (checked (allowed check) malformed (bytes n)))

-- ---- over any reader of texts

abbrev pub Over : Type 0 → Type 0
Over A = Reader (List ℕ) → Reader A

abbrev pub text_over : Over (List ℕ)
text_over texts = texts

abbrev pub value_over : Edition → Over Value
value_over ed texts = followed byte (in_edition ed (value_after_with texts))

abbrev pub operation_over : Edition → Over Operation
operation_over ed texts = followed byte (operation_after_with (value_over ed texts))

abbrev pub patch_over : Edition → Over Patch
patch_over ed texts = read_patch_with (operation_over ed texts)

abbrev pub patches_over : Edition → Over (List Patch)
patches_over ed texts = read_patches_with ed (patch_over ed texts)

-- a set, as it was read
unfoldable pub length_first_set : Edition → List ℕ → SetReading
length_first_set ed = read_set_with (patches_over ed (length_first_text true))

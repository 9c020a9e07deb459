-- Reading as it was before characters were counted: a text had at most 160 bytes. All else is read as it is now.
use Rattle.std.specs.Prelude.{ℕ, List}
use Rattle.spec_text.specs.Syntax.{is_utf8}
use Rattle.spec_patch.specs.Sizes.{former_text_bytes}
use Rattle.spec_patch.specs.Patch.{Value, Operation, Patch}
use Rattle.spec_patch.specs.Edition.{Edition}
use Rattle.spec_patch.specs.Reader.{malformed, Reader, followed, checked, byte, bytes}
use Rattle.spec_patch.specs.Read.{read_count, value_after_with, in_edition, operation_after_with, read_patch_with, read_patches_with, SetReading, read_set_with}

unfoldable pub former_text : Reader (List ℕ)
former_text = followed (read_count former_text_bytes) (λ n. checked is_utf8 malformed (bytes n))

unfoldable pub former_value : Edition → Reader Value
former_value ed = followed byte (in_edition ed (value_after_with former_text))

unfoldable pub former_operation : Edition → Reader Operation
former_operation ed = followed byte (operation_after_with (former_value ed))

unfoldable pub former_patch : Edition → Reader Patch
former_patch ed = read_patch_with (former_operation ed)

unfoldable pub former_patches : Edition → Reader (List Patch)
former_patches ed = read_patches_with ed (former_patch ed)

unfoldable pub former_set : Edition → List ℕ → SetReading
former_set ed = read_set_with (former_patches ed)

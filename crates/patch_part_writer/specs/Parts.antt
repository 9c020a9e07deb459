-- Whether a text keeps its capacity and stands within the texts, and the size of an operation whose text does.
use Rattle.std.specs.Prelude.{ℕ, ◌+◌, List, Bool, leb, length, if◌then◌else◌}
use Rattle.spec_patch.specs.Sizes.{text_bytes}
use Rattle.projection_patch.specs.declared.patch.ProjectionPatchOperation.{ProjectionPatchOperation}
use Rattle.patch_part_writer.specs.declared.extent.TextPlace.{TextPlace}
use Rattle.patch_part_writer.specs.Extent.{operation_size, operation_text}

-- a text's length is within its capacity
abbrev pub short_text : TextPlace → Bool
short_text t = leb t.len text_bytes

-- a text stands within the texts
abbrev pub inside_texts : List ℕ → TextPlace → Bool
inside_texts texts t = leb (t.start + t.len) (length texts)

-- the bytes of an operation, or 0 where its text is over its capacity
unfoldable pub size_within : ProjectionPatchOperation → ℕ
size_within o = if short_text (operation_text o) then operation_size o else 0

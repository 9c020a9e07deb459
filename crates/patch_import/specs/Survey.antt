-- What the pass over the lines tells: how many there are, the bytes of their operations, and whether a key occurs twice.
use Rattle.std.specs.Prelude as code
use Rattle.std.specs.Prelude.{ℕ, ◌+◌, ◌*◌, ◌≤◌, ◌≡◌, Bool, false, ◌||◌, length, Result, Ok, Err}
use mathlib.Core.List.{List, [], map, flat_map}
use Rattle.spec_patch.specs.Sizes.{patch_operations, text_bytes}
use Rattle.spec_patch.specs.Encode.{encode_operation}
use Rattle.spec_import.specs.Import.{Term, lines, Terms, terms, faulty, read_terms, insert_of}
use Rattle.projection_patch.specs.Meaning.{node_to, key_to}
use Rattle.projection_patch.specs.declared.patch.ProjectionPatchValue.TheVariants.{Text}
use Rattle.projection_patch.specs.declared.patch.ProjectionPatchOperation.{ProjectionPatchOperation}
use Rattle.projection_patch.specs.declared.patch.ProjectionPatchOperation.TheVariants.{CollectionInsert}
use Rattle.check_quick.specs.Quick.{found_from}
use Rattle.patch_import.specs.Answers.{import_refusal_to}
use Rattle.patch_import.specs.declared.answer.ImportRefusal.{ImportRefusal}
use Rattle.patch_import.specs.declared.survey.LineSurvey.{LineSurvey}

-- an insert of the text at a place of the list, before no neighbour
abbrev pub insertion_of : (collection k start len : ℕ) → ProjectionPatchOperation
insertion_of collection k start len = CollectionInsert (node_to collection) (key_to k) code.None (Text start len)

-- three numbers for the target of each operation of a patch
abbrev pub patch_numbers : ℕ
patch_numbers = 3 * patch_operations

-- what the insert of a text of so many bytes takes
abbrev pub term_bytes : ℕ → ℕ
term_bytes n = 23 + n

-- what the operations of a list take at most
abbrev pub most_bytes : ℕ
most_bytes = term_bytes text_bytes * patch_operations

-- the bytes of the operations
unfoldable pub insert_bytes : ℕ → List Term → List ℕ
insert_bytes collection ts = flat_map encode_operation (map (insert_of collection) ts)

-- so many lines, so many bytes, and whether a key occurs twice
abbrev pub lines_within : ℕ → ℕ → Bool → Result LineSurvey ImportRefusal
lines_within n bytes repeated = Ok (record { count = n; bytes = bytes; repeated = repeated })

-- what lines tell behind n others, whose operations took so many bytes, repeated a key or none, and left these targets
abbrev pub survey_from : ℕ → ℕ → ℕ → Bool → List ℕ → Terms → Result LineSurvey ImportRefusal
survey_from collection n bytes repeated targets (terms ts) =
    lines_within (n + length ts) (bytes + length (insert_bytes collection ts)) (repeated || found_from targets (map (insert_of collection) ts))
survey_from collection n bytes repeated targets (faulty r) = Err (import_refusal_to r)

abbrev pub survey_of : ℕ → Terms → Result LineSurvey ImportRefusal
survey_of collection = survey_from collection 0 0 false []

-- ---- the pass that writes

abbrev pub held_in : Terms → List Term
held_in (terms ts) = ts
held_in (faulty r) = []

-- the terms of a list whose lines all hold one
abbrev pub held_of : List ℕ → List Term
held_of list = held_in (read_terms 0 (lines list))

-- the lines hold terms, and there is room for their operations from an index on
pub record Writable (collection : ℕ) (list : List ℕ) (from room : ℕ) : Type 0 where
  pub held : read_terms 0 (lines list) ≡ terms (held_of list)
  pub enough : from + length (insert_bytes collection (held_of list)) ≤ room

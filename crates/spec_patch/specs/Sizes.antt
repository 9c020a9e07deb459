-- The capacities of 01, 'Sizes', a text's by 02, 'Job 5', and the largest u64. Laws use the names and not the figures.
use Rattle.std.specs.Prelude.{ℕ}

-- a set, in bytes
abbrev pub set_bytes : ℕ
set_bytes = 32768

-- a set, in patches
abbrev pub set_patches : ℕ
set_patches = 64

-- a patch, in operations
abbrev pub patch_operations : ℕ
patch_operations = 128

-- a text, in bytes and in characters
abbrev pub text_bytes : ℕ
text_bytes = 240

abbrev pub text_characters : ℕ
text_characters = 160

-- the highest match score
abbrev pub highest_score : ℕ
highest_score = 100

-- a text before its characters were counted, in bytes
abbrev pub former_text_bytes : ℕ
former_text_bytes = 160

-- a projection, in bindings, availabilities and entries of all collections
abbrev pub projection_bindings : ℕ
projection_bindings = 64

abbrev pub projection_availabilities : ℕ
projection_availabilities = 64

abbrev pub projection_entries : ℕ
projection_entries = 128

-- a session's anchors of each kind
abbrev pub anchors : ℕ
anchors = 128

-- 2^64 − 1
abbrev pub largest_u64 : ℕ
largest_u64 = 18446744073709551615

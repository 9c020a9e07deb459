-- How long the answer to a line can be. A u64 has at most 20 digits.
use Rattle.std.specs.Prelude.{ℕ, ◌+◌, ◌*◌, ◌/◌}
use Rattle.spec_patch.specs.Sizes.{set_bytes}

-- D, 0, a word of five letters and two numbers, with a tab before each, and the newline
abbrev pub verdict_bytes : ℕ
verdict_bytes = 52

-- Q, a collection and a key with their tabs, the newline
abbrev pub key_line_bytes : ℕ
key_line_bytes = 44

-- a key that a set looks for takes 13 of its bytes at least
abbrev pub most_keys : ℕ
most_keys = set_bytes / 13

abbrev pub dependency_bytes : ℕ
dependency_bytes = verdict_bytes + most_keys * key_line_bytes

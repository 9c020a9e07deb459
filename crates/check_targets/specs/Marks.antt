-- Marks of targets: each target that stands among some numbers has its mark, so that one without a mark is not among them.
use Rattle.std.specs.Prelude.{ℕ, ◌+◌, ◌*◌, ◌%◌, ◌≡◌, length, get_or}
use mathlib.Core.List.{List, flat_map}
use Rattle.spec_lists.specs.Lists.{All}
use Rattle.spec_checks.specs.Target.{MutationTarget}
use Rattle.check_targets.specs.Targets.{numbers_of}

-- how many places there are for marks
abbrev pub mark_places : ℕ
mark_places = 512

-- the place of a target's mark
unfoldable pub mark_of : MutationTarget → ℕ
mark_of t = (t.first % mark_places * 447 + t.kind % mark_places * 419 + t.second % mark_places) % mark_places

abbrev pub HasMark : List ℕ → MutationTarget → Type 0
HasMark marks t = get_or marks (mark_of t) 0 ≡ 1

-- the numbers are those of targets that all have their marks
pub record Marked (marks numbers : List ℕ) : Type 0 where
  pub long : length marks ≡ mark_places
  pub targets : List MutationTarget
  pub are : numbers ≡ flat_map numbers_of targets
  pub each : All (HasMark marks) targets

use Rattle.std.specs.Prelude.{◌≡◌, ◌-◌, length}
use Rattle.spec_turns.specs.Turns.{first_waiting}
use Rattle.session_turns.proofs.first_waiting.Given as goal

-- what is left of the circle finds whom the whole circle finds
abbrev pub invariant-loop : goal.invariant-loop
invariant-loop l = first_waiting l.waiting (length l.waiting - l.counter) l.sender ≡ first_waiting l.waiting (length l.waiting) l.from

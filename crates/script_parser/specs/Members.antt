-- What a field of a batch stands for: how reading goes on, whatever follows.
use Rattle.std.specs.Prelude.{ℕ, List, Option, Some, None}
use Rattle.std.proofs.Math.Option.{some}
use Rattle.spec_group.specs.Group.{GroupBatch}
use Rattle.spec_replay.specs.Script.{Command, group, other, given, numbered_edition}
use Rattle.script_parser.specs.Forms.{number_in}
use Rattle.script_parser.specs.Meaning.{member_of, first_members, set_from}
use Rattle.script_parser.specs.declared.GroupMember.{GroupMember}
use Rattle.script_parser.specs.declared.members.GroupFields.{GroupFields}

abbrev pub member_then : Option GroupMember → (GroupBatch → Command) → Command
member_then (Some m) next = next (member_of m)
member_then None next = other

-- the batch of seven numbers, if the sixth is an edition
abbrev pub member_made : List ℕ → (GroupBatch → Command) → Command
member_made ns next =
    given (numbered_edition (some (number_in ns 5)))
    (λ ed. next (record { edition = ed; envelope = record { session = number_in ns 0; sequence = number_in ns 1; patches = number_in ns 2; stimulus_bytes = number_in ns 3 }; references = number_in ns 4; bytes = number_in ns 6 }))

-- the batches in the first places and the sets behind them, or any other line
abbrev pub group_then : List ℕ → Option GroupFields → Command
group_then line (Some r) = set_from line r.from (group (first_members r.count r.members))
group_then line None = other

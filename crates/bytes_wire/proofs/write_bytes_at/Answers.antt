-- `bytes_wire::write_bytes_at` meets its contract: the bytes in place where there is room, else nothing.
use Rattle.std.proofs.Common.{rules}
use Rattle.bytes_wire.specs.Write.{has_room, overwrite}
use Rattle.bytes_wire.proofs.WriteLaws.{overwrite_part}
use Rattle.bytes_wire.proofs.write_bytes_at.Goals as goal

pub returns-then-not-has_room-clause-value : goal.returns-then-not-has_room-clause-value
unfolding has_room
returns-then-not-has_room-clause-value c = search rules

pub returns-then-not-has_room-clause-out_after : goal.returns-then-not-has_room-clause-out_after
unfolding has_room overwrite
returns-then-not-has_room-clause-out_after c = search rules

pub returns-clause-value : goal.returns-clause-value
unfolding has_room
returns-clause-value c = search rules

pub returns-clause-out_after : goal.returns-clause-out_after
returns-clause-out_after c =
    overwrite_part c.args.out.now c.args.at c.args.bytes.now c.copy_from_slice.ensures.after c.if-not-has_room.ensures

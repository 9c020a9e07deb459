-- `bytes_wire::write_u64_at` meets its contract.
use Rattle.std.proofs.Common.{ap, ◌∙◌}
use Rattle.bytes_wire.specs.Write.{overwrite}
use Rattle.bytes_wire.proofs.ReadLaws.{eight_bytes}
use Rattle.bytes_wire.proofs.write_u64_at.Goals as goal

pub returns-clause-out_after : goal.returns-clause-out_after
returns-clause-out_after c = c.write_bytes_at.ensures.out_after ∙ ap (overwrite c.args.out.now c.args.at) (c.to_le_bytes.ensures ∙ eight_bytes c.args.x)

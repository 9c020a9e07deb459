-- `bytes_wire::read_u8_at` meets its contract: the byte at the index.
use Rattle.std.proofs.Common.{ap, ◌∙◌}
use Rattle.spec_lists.specs.Options.{optional_of}
use Rattle.bytes_wire.proofs.ReadLaws.{one_at}
use Rattle.bytes_wire.proofs.read_u8_at.Goals as goal

pub returns : goal.returns
returns c = ap optional_of c.copied.ensures ∙ one_at c.args.part.now c.args.at c.get.result c.get.ensures.lookup

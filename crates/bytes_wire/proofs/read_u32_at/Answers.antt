-- `bytes_wire::read_u32_at` meets its contract: the first four bytes from the index on.
use Rattle.std.proofs.Common.{ap, ◌∙◌, sym, arith}
use Rattle.std.proofs.Math.Option.{some}
use Rattle.spec_lists.specs.Options.{optional_of}
use Rattle.bytes_wire.proofs.ReadLaws.{none_beyond, four_at}
use Rattle.bytes_wire.proofs.read_u32_at.Goals as goal

pub returns-in_err-get : goal.returns-in_err-get
returns-in_err-get c =
    ap optional_of c.from_residual.ensures ∙ sym (none_beyond c.args.part.now c.args.at 4 (omega (arith, c.in_err-get.ensures.lookup)))

pub returns-in_err-first_chunk : goal.returns-in_err-first_chunk
returns-in_err-first_chunk c =
    ap optional_of c.from_residual-in_err-first_chunk.ensures
    ∙ sym (none_beyond c.args.part.now c.args.at 4 (omega (arith, c.in_ok-get.ensures.lookup, c.in_err-first_chunk.ensures.cases)))

pub returns : goal.returns
returns c = ap some c.from_le_bytes.ensures ∙ four_at c.args.part.now c.args.at c.in_ok-get.ensures.lookup.0.2 c.in_ok-first_chunk.ensures.cases

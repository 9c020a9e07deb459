-- `bytes_wire::read_i64_at` meets its contract: eight bytes, as two's complement.
use Rattle.std.proofs.Common.{ap, ◌∙◌, to_z, to_z-of_z}
use Rattle.std.proofs.Math.Option.{some, map}
use borrow.Author.Rules.{rules}
use Rattle.std.specs.Int.{w64}
use Rattle.spec_lists.specs.Options.{optional_of}
use Rattle.bytes_wire.specs.Read.{first_signed}
use Rattle.bytes_wire.proofs.read_i64_at.Goals as goal

pub returns-in_err-read_u64_at : goal.returns-in_err-read_u64_at
unfolding first_signed
returns-in_err-read_u64_at c = ap optional_of c.from_residual.ensures ∙ ap (map (to_z w64)) c.in_err-read_u64_at.ensures

pub returns : goal.returns
unfolding first_signed
returns c =
    ap some (to_z-of_z {w = w64} (search rules) ∙ c.cast_signed.ensures) ∙ ap (map (to_z w64)) c.in_ok-read_u64_at.ensures

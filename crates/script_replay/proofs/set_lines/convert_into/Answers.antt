-- `script_replay::set_lines::convert_into` meets its contract: as many bytes are lent as the line says.
use Prim.Native.Nat.{ℕ, ◌-◌, ◌≤◌}
use mathlib.Core.Path.{◌≡◌, ap, ◌∙◌}
use native.Mathlib.Omega.{arith}
use borrow.Author.Rules.{rules}
use lib.ListN.{length, take, drop, replicate, length-replicate}
use lib.Seq.{length-take-le}
use Rattle.spec_conversion.specs.Conversion.{convert}
use Rattle.spec_replay.specs.Answers.{conversion_line}
use Rattle.bytes_printer.proofs.PrintsLaws.{prints_same}
use Rattle.projection_patch.specs.Meaning.{edition_of}
use Rattle.script_replay.proofs.set_lines.convert_into.Goals as goal

lent_length : (n room : ℕ) → room ≤ n → length (take (room - 0) (drop 0 (replicate {A = ℕ} n 0))) ≡ room
lent_length n room h =
    let same : room - 0 ≡ room = omega arith in
    length-take-le (room - 0) (replicate n 0) (omega (arith, length-replicate {A = ℕ} n 0)) ∙ same

pub returns : goal.returns
returns c =
    prints_same (ap (λ (n : ℕ). conversion_line (convert (edition_of c.args.edition) c.args.set.now n)) (lent_length 65536 c.args.room (search rules))) c.print_converted.ensures

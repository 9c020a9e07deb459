-- `script_replay::import_lines::import_into` meets its contract: as many bytes are lent as the line says.
use Prim.Native.Nat.{ℕ, ◌-◌, ◌≤◌}
use mathlib.Core.Path.{◌≡◌, ap, ◌∙◌}
use native.Mathlib.Omega.{arith}
use borrow.Author.Rules.{rules}
use lib.ListN.{length, take, drop, replicate, length-replicate}
use lib.Seq.{length-take-le}
use Rattle.spec_import.specs.Import.{import_terms}
use Rattle.spec_replay.specs.Answers.{import_line}
use Rattle.bytes_printer.proofs.PrintsLaws.{prints_same}
use Rattle.projection_patch.specs.Meaning.{edition_of, envelope_of}
use Rattle.script_replay.proofs.import_lines.import_into.Goals as goal
use Rattle.script_replay.proofs.import_lines.import_into.Goals.{Start}

lent_length : (n room : ℕ) → room ≤ n → length (take (room - 0) (drop 0 (replicate {A = ℕ} n 0))) ≡ room
lent_length n room h =
    let same : room - 0 ≡ room = omega arith in
    length-take-le (room - 0) (replicate n 0) (omega (arith, length-replicate {A = ℕ} n 0)) ∙ same

few : (c : Start) → c.args.wanted.room ≤ 65536
few c = search rules

pub returns : goal.returns
returns c =
    prints_same (ap (λ (n : ℕ). import_line (import_terms (edition_of c.args.edition) c.args.wanted.collection (envelope_of c.args.wanted.envelope) c.args.list.now n)) (lent_length 65536 c.args.wanted.room (few (goal.at.returns c).Start))) c.print_imported.ensures

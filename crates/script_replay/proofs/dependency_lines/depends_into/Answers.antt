-- `script_replay::dependency_lines::depends_into` meets its contract: as many places are lent as the line says.
use Prim.Native.Nat.{ℕ, zero, suc, ◌-◌, ◌≤◌}
use mathlib.Core.Path.{◌≡◌, refl, ap, ◌∙◌}
use mathlib.Core.List.{List, ◌∷◌}
use native.Mathlib.Omega.{arith}
use borrow.Author.Rules.{rules}
use lib.ListN.{take, drop, replicate}
use Rattle.spec_dependencies.specs.Answer.{dependencies_of}
use Rattle.spec_replay.specs.Answers.{dependency_lines}
use Rattle.bytes_printer.proofs.PrintsLaws.{prints_same}
use Rattle.projection_patch.specs.Meaning.{edition_of}
use Rattle.script_replay.proofs.dependency_lines.depends_into.Goals as goal

-- the first of many zeros
first_zeros : (n room : ℕ) → room ≤ n → take room (replicate {A = ℕ} n 0) ≡ replicate room 0
first_zeros n zero h = refl
first_zeros zero (suc room) h = absurd (omega arith)
first_zeros (suc n) (suc room) h = ap (λ (l : List ℕ). 0 ∷ l) (first_zeros n room (omega arith))

lent_zeros : (n room : ℕ) → room ≤ n → take (room - 0) (drop 0 (replicate {A = ℕ} n 0)) ≡ replicate room 0
lent_zeros n room h =
    let same : room - 0 ≡ room = omega arith in
    ap (λ (k : ℕ). take k (replicate {A = ℕ} n 0)) same ∙ first_zeros n room h

pub returns : goal.returns
returns c =
    prints_same (ap (λ (l : List ℕ). dependency_lines (dependencies_of (edition_of c.args.edition) c.args.set.now l)) (lent_zeros 65536 c.args.room (search rules))) c.print_told.ensures

-- `geysertray_group` meets its contract: the numbers are counted and read, and the call below is told the batches.
use Prim.Native.Nat.{ℕ, ◌%◌, min}
use mathlib.Core.Path.{◌≡◌, refl, sym, ◌∙◌}
use mathlib.Core.Bool.{Bool, true, false, false≢true}
use mathlib.Core.List.{List}
use borrow.Author.Tests.{eq-eqb, ne_eqb}
use lib.ListN.{length}
use Rattle.spec_group.specs.Group.{group_batches}
use Rattle.c_answers.specs.GroupNumbers.{batch_numbers, batch_count, editions_known, batches_known}
use borrow.Author.Rules.{rules}
use Rattle.c_exports.proofs.group.geysertray_group.Goals as goal
use Rattle.c_exports.proofs.group.geysertray_group.Goals.{After-read_batches-read}

-- numbers that are no sevens, or of which an edition is none, are not known
uneven : (numbers : List ℕ) → (length numbers % batch_numbers ≡ 0 → ⊥) → batches_known numbers ≡ false
uneven numbers not = rw (ne_eqb (length numbers % batch_numbers) 0 not) refl

even : (numbers : List ℕ) (known : Bool) → length numbers % batch_numbers ≡ 0 → known ≡ editions_known numbers (min (batch_count numbers) group_batches) → (told : Bool) → known ≡ told → batches_known numbers ≡ told
even numbers known is same told tells = rw (eq-eqb (length numbers % batch_numbers) 0 is) (sym same ∙ tells)

-- the numbers that tell the batches which were read
abbrev numbersIn : After-read_batches-read → List ℕ
numbersIn r = r.args.batches.now

read_told : (r : After-read_batches-read) (told : Bool) → r.read_batches-read.result.known ≡ told → batches_known (numbersIn r) ≡ told
read_told r = even (numbersIn r) r.read_batches-read.result.known r.if-count-ne0.false r.read_batches-read.ensures.known

pub returns-then-count-ne0 : goal.returns-then-count-ne0
returns-then-count-ne0 c =
    record { known = λ yes. absurd (false≢true (sym (uneven c.args.batches.now c.if-count-ne0.true) ∙ yes)); unknown = λ no. (c.no_group.ensures, (refl, refl)) }

pub returns-then-read : goal.returns-then-read
returns-then-read c =
    let all = read_told (goal.at.returns-then-read c).After-read_batches-read true c.if-read.true in
    record { known = λ yes. (c.read_batches-read.result.batches, (c.read_batches-read.ensures.named, record { answer = c.apply_projection_patch_batches-answer.result; call = c.apply_projection_patch_batches-answer.ensures; told = c.group_told.ensures })); unknown = λ no. absurd (false≢true (sym no ∙ all)) }

pub returns : goal.returns
returns c =
    let other = read_told (goal.at.returns c).After-read_batches-read false c.if-read.false in
    record { known = λ yes. absurd (false≢true (sym other ∙ yes)); unknown = λ no. (c.no_group-2.ensures, (refl, refl)) }

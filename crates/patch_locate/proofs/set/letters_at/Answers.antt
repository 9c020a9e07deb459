-- `patch_locate::set::letters_at` meets its contract: what is left of the letters answers from the same position on as the whole does.
use mathlib.Core.Path.{refl, sym, ap, ◌∙◌}
use native.Mathlib.Omega.{arith}
use lib.ListN.{length, drop}
use Rattle.patch_locate.specs.Answers.{located_answer}
use Rattle.patch_locate.specs.Positions.{past_here}
use Rattle.patch_locate.specs.SetPositions.{letter_lacking, letter_same, letter_differs, letters_end}
use Rattle.std.specs.Prelude.{◌≡◌, Ok, Err}
use Rattle.patch_locate.proofs.set.letters_at.Goals as goal

pub loop-i-init : goal.loop-i-init
loop-i-init c = (omega arith, refl)

pub returns-then-set-i : goal.returns-then-set-i
returns-then-set-i c =
    ap Err c.stop_at.ensures ∙ letter_lacking c.args.set.now c.args.letters.now c.loop-i.i (omega arith) (omega arith) ∙ c.loop-i.invariant.1

pub returns-then-set-i-2 : goal.returns-then-set-i-2
returns-then-set-i-2 c =
    ap Err c.outside.ensures ∙ letter_differs c.args.set.now c.args.letters.now c.loop-i.i (omega arith) (omega arith) c.if-set-i-2.true ∙ c.loop-i.invariant.1

pub loop-i-preserved : goal.loop-i-preserved
loop-i-preserved c =
    (omega arith, letter_same c.args.set.now c.args.letters.now c.loop-i.i (omega arith) (omega arith) c.if-set-i-2.false ∙ c.loop-i.invariant.1)

pub returns : goal.returns
returns c =
    ap Ok (let all : length c.args.letters.now ≡ c.loop-i.i = omega arith in all) ∙ past_here c.args.set.now c.loop-i.i c.loop-i.invariant.0
    ∙ ap (located_answer (length c.args.set.now)) (sym (letters_end c.args.letters.now c.loop-i.i (omega arith) (drop c.loop-i.i c.args.set.now)))
    ∙ c.loop-i.invariant.1

-- `first_waiting` meets its contract.
use Rattle.std.proofs.Common.{◌≡◌, ◌+◌, ◌-◌, length, sym, ◌∙◌, arith}
use Rattle.spec_turns.proofs.CircleLaws.{search_here, search_on, search_over}
use Rattle.session_turns.proofs.first_waiting.Goals as goal

pub returns-then-waits : goal.returns-then-waits
returns-then-waits c = sym (search_here _ _ _ (omega arith) (sym c.waits.ensures ∙ c.if-waits.true)) ∙ c.loop.invariant

pub loop-preserved : goal.loop-preserved
loop-preserved c =
    let w = c.args.waiting.now in
    let one_less : (length w - c.loop.counter) - 1 ≡ length w - (c.loop.counter + 1) = omega arith in
    rw (c.after-sender.ensures, sym one_less) (sym (search_on w _ _ (omega (arith, c.loop-test.true)) (sym c.waits.ensures ∙ c.if-waits.false)) ∙ c.loop.invariant)

pub returns : goal.returns
returns c = sym (search_over _ _ _ (omega arith)) ∙ c.loop.invariant

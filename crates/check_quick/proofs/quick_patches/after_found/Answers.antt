-- `check_quick::quick_patches::after_found` meets its contract: the tests in their order.
use Rattle.std.proofs.Common.{sym, ap, ◌∙◌, arith, ℕ, take}
use Rattle.std.proofs.lemmas.Bool.Decides.{nat_tests}
use Rattle.check_findings.specs.Ids.{id_seen}
use Rattle.check_quick.specs.Quick.{after_found}
use Rattle.check_quick.proofs.quick_patches.after_found.Goals as goal
use Rattle.check_quick.proofs.quick_patches.after_found.Goals.{then-earlier, else-earlier, then-own, else-own}

pub returns-then-seen-clause-found : goal.returns-then-seen-clause-found
unfolding after_found
returns-then-seen-clause-found c =
    let seen = c.id_repeats-seen.ensures.seen ∙ ap (λ (n : ℕ). id_seen n (take c.args.used c.args.ids.now)) c.raw.ensures in
    elim c.if-own.branch [
      | then-own w ↦ elim c.if-earlier.branch [ then-earlier v ↦ grind (arith, nat_tests, seen) | else-earlier v ↦ grind (arith, nat_tests, seen) ]
      | else-own w ↦ elim c.if-earlier.branch [ then-earlier v ↦ grind (arith, nat_tests, seen) | else-earlier v ↦ grind (arith, nat_tests, seen) ]
    ]

pub returns-else-seen-clause-found : goal.returns-else-seen-clause-found
unfolding after_found
returns-else-seen-clause-found c =
    let seen = c.id_repeats-seen.ensures.seen ∙ ap (λ (n : ℕ). id_seen n (take c.args.used c.args.ids.now)) c.raw.ensures in
    elim c.if-own.branch [
      | then-own w ↦ elim c.if-earlier.branch [ then-earlier v ↦ grind (arith, nat_tests, seen) | else-earlier v ↦ grind (arith, nat_tests, seen) ]
      | else-own w ↦ elim c.if-earlier.branch [ then-earlier v ↦ grind (arith, nat_tests, seen) | else-earlier v ↦ grind (arith, nat_tests, seen) ]
    ]

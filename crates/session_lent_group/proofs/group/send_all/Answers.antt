-- `send_all` meets its contract: batches from the own half until one is applied, then between the two others.
use mathlib.Core.Path.{sym, subst, ◌∙◌}
use Rattle.session_lent.specs.Halves.{Half, Anchors, anchors_with, half_with}
use Rattle.session_lent_group.specs.declared.places.GroupLeft.{GroupLeft}
use Rattle.session_lent_group.specs.declared.places.RefusedBatch.{RefusedBatch}
use Rattle.session_lent_group.specs.Sendings.{LeftFits, SentFits}
use Rattle.session_lent_group.specs.SendingsLaws.{SentAs, RanBetween, own_ended, own_broke, own_moved}
use Rattle.std.specs.Prelude.{◌≡◌, ℕ, Option, Some, None, Result, Ok, Err}
use Rattle.std.proofs.Common.{ap}
use Rattle.std.proofs.lemmas.Result.{err_from_is_err_and}
use borrow.Author.Rules.{rules}
use Rattle.session_lent_group.proofs.group.send_all.Goals as goal
use Rattle.session_lent_group.proofs.group.send_all.Goals.{After-send_until_applied}

abbrev anchors : After-send_until_applied → Anchors
anchors k = anchors_with k.args.nodes.now k.args.pairs.now k.args.collections.now

abbrev first : After-send_until_applied → Half
first k = half_with k.args.first_head.now k.args.first_bindings.now k.args.first_availability.now k.args.first_entries.now k.args.first_lengths.now

abbrev second : After-send_until_applied → Half
second k = half_with k.args.second_head.now k.args.second_bindings.now k.args.second_availability.now k.args.second_entries.now k.args.second_lengths.now

-- the first half after what was sent to it
abbrev after : After-send_until_applied → Half
after k = half_with k.send_until_applied.new.to_head k.send_until_applied.new.to_bindings k.send_until_applied.new.to_availability k.send_until_applied.new.to_entries k.send_until_applied.new.to_lengths

sent : (k : After-send_until_applied) (x : Result (Option (ℕ × ℕ)) RefusedBatch) → k.send_until_applied.result ≡ x → SentAs (anchors k) k.args.head.now k.args.bindings.now k.args.availability.now k.args.entries.now k.args.sets.now k.args.left (first k) (after k) x
sent k x is =
    subst (λ (y : Result (Option (ℕ × ℕ)) RefusedBatch). SentAs (anchors k) k.args.head.now k.args.bindings.now k.args.availability.now k.args.entries.now k.args.sets.now k.args.left (first k) (after k) y) is
    (k.send_until_applied.ensures.holding, k.send_until_applied.ensures.whatever)

pub send_until_applied-requires : goal.send_until_applied-requires
send_until_applied-requires c = (c.requires.0, (c.requires.1.0, c.requires.1.1.0))

pub send_between-requires : goal.send_between-requires
send_between-requires c =
    let k = (goal.at.send_between-requires c).After-send_until_applied in
    let fits = (sent k _ (c.in_ok-applied.was ∙ ap Ok c.in-Some.is)).1 in
    (subst (λ (x : GroupLeft). LeftFits x c.args.sets.now) (sym c.left_from.ensures) fits.1, (search (rules, c.requires.1.1.0), search (rules, c.requires.1.1.1)))

pub returns-in_err-applied : goal.returns-in_err-applied
returns-in_err-applied c =
    let k = (goal.at.returns-in_err-applied c).After-send_until_applied in
    let p = err_from_is_err_and c.from_residual.result c.from_residual.ensures.1 in
    let all = own_broke (anchors k) c.args.head.now c.args.bindings.now c.args.availability.now c.args.entries.now (first k) (second k) (after k) c.args.sets.now c.args.left _ (sent k _ c.in_err-applied.was) in
    rw (p.1, p.2) (record { holding = all.0; whatever = all.1 })

pub returns-in_default : goal.returns-in_default
returns-in_default c =
    let k = (goal.at.returns-in_default c).After-send_until_applied in
    let all = own_ended (anchors k) c.args.head.now c.args.bindings.now c.args.availability.now c.args.entries.now (first k) (second k) (after k) c.args.sets.now c.args.left (sent k _ (c.in_ok-applied.was ∙ ap Ok c.in_default.is)) in
    record { holding = all.0; whatever = all.1 }

pub returns : goal.returns
returns c =
    let k = (goal.at.returns c).After-send_until_applied in
    let first'' = half_with c.send_between.new.head c.send_between.new.bindings c.send_between.new.availability c.send_between.new.entries c.send_between.new.lengths in
    let second'' = half_with c.send_between.new.to_head c.send_between.new.to_bindings c.send_between.new.to_availability c.send_between.new.to_entries c.send_between.new.to_lengths in
    let ran = subst (λ (x : GroupLeft). RanBetween (anchors k) (after k) (second k) c.args.sets.now x first'' second'' c.send_between.result) c.left_from.ensures (c.send_between.ensures.holding, c.send_between.ensures.whatever) in
    let all = own_moved (anchors k) c.args.head.now c.args.bindings.now c.args.availability.now c.args.entries.now (first k) (second k) (after k) c.args.sets.now c.args.left c.in-Some.place c.in-Some.at (sent k _ (c.in_ok-applied.was ∙ ap Ok c.in-Some.is)) first'' second'' c.send_between.result ran in
    record { holding = all.0; whatever = all.1 }

-- `send_between` meets its contract: after a batch that was applied the rest goes from the other half back.
use mathlib.Core.Path.{sym, subst}
use borrow.Author.Rules.{rules}
use Rattle.session_lent.specs.Halves.{Half, Anchors, anchors_with, half_with}
use Rattle.session_lent_group.specs.declared.places.GroupLeft.{GroupLeft}
use Rattle.session_lent_group.specs.declared.places.LentHalf.{LentHalf}
use Rattle.session_lent_group.specs.declared.places.RefusedBatch.{RefusedBatch}
use Rattle.std.specs.Prelude.{◌≡◌, ℕ, Option, Some, None, Result, Ok, Err}
use Rattle.std.proofs.Common.{ap, ◌∙◌}
use Rattle.std.proofs.lemmas.Result.{err_from_is_err_and}
use Rattle.session_lent_group.specs.Sendings.{LeftFits, turned_to}
use Rattle.session_lent_group.specs.SendingsLaws.{SentAs, RanBetween, between_ended, between_broke, between_moved, fewer_left}
use Rattle.session_lent_group.proofs.between.+send_between.Goals as goal
use Rattle.session_lent_group.proofs.between.+send_between.Goals.{After-send_until_applied}

abbrev anchors : {t : ℕ} → After-send_until_applied t → Anchors
anchors k = anchors_with k.args.nodes.now k.args.pairs.now k.args.collections.now

abbrev from : {t : ℕ} → After-send_until_applied t → Half
from k = half_with k.args.head.now k.args.bindings.now k.args.availability.now k.args.entries.now k.args.lengths.now

abbrev to : {t : ℕ} → After-send_until_applied t → Half
to k = half_with k.args.to_head.now k.args.to_bindings.now k.args.to_availability.now k.args.to_entries.now k.args.to_lengths.now

-- the other half after what was sent to it
abbrev after : {t : ℕ} → After-send_until_applied t → Half
after k = half_with k.send_until_applied.new.to_head k.send_until_applied.new.to_bindings k.send_until_applied.new.to_availability k.send_until_applied.new.to_entries k.send_until_applied.new.to_lengths

sent : {t : ℕ} (k : After-send_until_applied t) (x : Result (Option (ℕ × ℕ)) RefusedBatch) → k.send_until_applied.result ≡ x → SentAs (anchors k) k.args.head.now k.args.bindings.now k.args.availability.now k.args.entries.now k.args.sets.now k.args.left (to k) (after k) x
sent k x is =
    subst (λ (y : Result (Option (ℕ × ℕ)) RefusedBatch). SentAs (anchors k) k.args.head.now k.args.bindings.now k.args.availability.now k.args.entries.now k.args.sets.now k.args.left (to k) (after k) y) is
    (k.send_until_applied.ensures.holding, k.send_until_applied.ensures.whatever)

pub send_between-requires : goal.send_between-requires
send_between-requires t c =
    let k = (goal.at.send_between-requires t c).After-send_until_applied in
    let fits = (sent k _ (c.in_ok-applied.was ∙ ap Ok c.in-Some.is)).1 in
    let next = c.left_from.ensures in (
      fewer_left c.args.left c.left_from.result c.in-Some.place c.in-Some.at t next fits.0 fits.1.reached c.decreases,
      (subst (λ (x : GroupLeft). LeftFits x c.args.sets.now) (sym next) fits.1, (search (rules, c.requires.1.1), search (rules, c.requires.1.0))),
    )

pub returns-in_err-applied : goal.returns-in_err-applied
returns-in_err-applied t c =
    let k = (goal.at.returns-in_err-applied t c).After-send_until_applied in
    let p = err_from_is_err_and c.from_residual.result c.from_residual.ensures.1 in
    let all = between_broke (anchors k) (from k) (to k) (after k) c.args.sets.now c.args.left _ (sent k _ c.in_err-applied.was) in
    rw (p.1, p.2) (record { holding = all.0; whatever = all.1 })

pub returns-in_default : goal.returns-in_default
returns-in_default t c =
    let k = (goal.at.returns-in_default t c).After-send_until_applied in
    let all = between_ended (anchors k) (from k) (to k) (after k) c.args.sets.now c.args.left (sent k _ (c.in_ok-applied.was ∙ ap Ok c.in_default.is)) in
    record { holding = all.0; whatever = all.1 }

pub returns-in_err-half : goal.returns-in_err-half
returns-in_err-half t c =
    let k = (goal.at.returns-in_err-half t c).After-send_until_applied in
    let p = err_from_is_err_and c.from_residual-in_err-half.result c.from_residual-in_err-half.ensures.1 in
    -- the call lent the halves exchanged
    let to'' = half_with c.send_between.new.head c.send_between.new.bindings c.send_between.new.availability c.send_between.new.entries c.send_between.new.lengths in
    let from'' = half_with c.send_between.new.to_head c.send_between.new.to_bindings c.send_between.new.to_availability c.send_between.new.to_entries c.send_between.new.to_lengths in
    let rest = subst (λ (x : GroupLeft). RanBetween (anchors k) (after k) (from k) c.args.sets.now x to'' from'' c.send_between.result) c.left_from.ensures (c.send_between.ensures.holding, c.send_between.ensures.whatever) in
    let moved = between_moved (anchors k) (from k) (to k) (after k) c.args.sets.now c.args.left c.in-Some.place c.in-Some.at (sent k _ (c.in_ok-applied.was ∙ ap Ok c.in-Some.is)) from'' to'' c.send_between.result rest in
    let all = subst (λ (x : Result LentHalf RefusedBatch). RanBetween (anchors k) (from k) (to k) c.args.sets.now c.args.left from'' to'' (turned_to x)) c.in_err-half.was moved in
    rw (p.1, p.2) (record { holding = all.0; whatever = all.1 })

pub returns : goal.returns
returns t c =
    let k = (goal.at.returns t c).After-send_until_applied in
    -- the call lent the halves exchanged
    let to'' = half_with c.send_between.new.head c.send_between.new.bindings c.send_between.new.availability c.send_between.new.entries c.send_between.new.lengths in
    let from'' = half_with c.send_between.new.to_head c.send_between.new.to_bindings c.send_between.new.to_availability c.send_between.new.to_entries c.send_between.new.to_lengths in
    let rest = subst (λ (x : GroupLeft). RanBetween (anchors k) (after k) (from k) c.args.sets.now x to'' from'' c.send_between.result) c.left_from.ensures (c.send_between.ensures.holding, c.send_between.ensures.whatever) in
    let moved = between_moved (anchors k) (from k) (to k) (after k) c.args.sets.now c.args.left c.in-Some.place c.in-Some.at (sent k _ (c.in_ok-applied.was ∙ ap Ok c.in-Some.is)) from'' to'' c.send_between.result rest in
    let all = subst (λ (x : Result LentHalf RefusedBatch). RanBetween (anchors k) (from k) (to k) c.args.sets.now c.args.left from'' to'' (turned_to x)) c.in_ok-half.was moved in
    rw c.turned.ensures (record { holding = all.0; whatever = all.1 })

use Prim.Native.Nat.{ℕ, ◌+◌, ◌-◌, ◌≤◌}
use mathlib.Core.Path.{◌≡◌, ap, subst, ◌∙◌}
use native.Mathlib.Omega.{arith}
use borrow.Author.Rules.{rules}
use lib.ListN.{length, take, drop}
use Rattle.projection_patch.specs.Meaning.{edition_of}
use Rattle.panel_changes.specs.PlanMemory.{no_plan}
use Rattle.session_gates.specs.Gates.{batch_envelope_of}
use Rattle.session_lent.specs.Batches.{ShapedCall}
use Rattle.session_lent.specs.Halves.{Anchors, Half, anchors_with, half_with}
use Rattle.session_lent_group.specs.declared.places.GroupLeft.{GroupLeft}
use Rattle.session_lent_group.specs.Sendings.{left_from}
use Rattle.session_lent_group.specs.SendingsLaws.{next_batch, rest_room, UnchangedUpTo, unchanged_start, unchanged_next, sent_moved, sent_broke, sent_ended}
use Rattle.session_lent_group.proofs.sending.send_until_applied.Given as goal

abbrev pub invariant-loop-place : goal.invariant-loop-place
invariant-loop-place l =
    UnchangedUpTo (anchors_with l.nodes l.pairs l.collections) l.head l.bindings l.availability l.entries l.sets l.left l.place l.at (half_with l.initial.to_head l.initial.to_bindings l.initial.to_availability l.initial.to_entries l.initial.to_lengths) (half_with l.to_head l.to_bindings l.to_availability l.to_entries l.to_lengths)

use Prim.Native.Nat.{ℕ, ◌+◌, ◌-◌, ◌≤◌}
use mathlib.Core.Path.{◌≡◌, refl, sym, subst, ◌∙◌}
use mathlib.Core.List.{List, ◌∷◌}
use native.Mathlib.Omega.{arith}
use borrow.Author.Rules.{rules}
use lib.ListN.{length, get_or, take, drop}
use Rattle.spec_lists.proofs.ListLaws.{unmapped}
use Rattle.spec_session.specs.Session.{Session}
use Rattle.spec_group.specs.Group as model
use Rattle.spec_group.specs.Group.{group_batches, run_group, conclude_group}
use Rattle.projection_patch.specs.Meaning.{edition_of}
use Rattle.shell_player.specs.declared.session.ShellSession.{ShellSession}
use Rattle.shell_player.specs.Holds.{Holds}
use Rattle.shell_player.specs.Batches.{BatchCall}
use Rattle.session_group.specs.declared.GroupBatch.{GroupBatch}
use Rattle.session_group.specs.declared.ProjectionPatchGroup.{ProjectionPatchGroup}
use Rattle.session_group.specs.Groups.{batch_means, named_batch, answer_number, GroupBecame, AnswerFits}
use Rattle.session_group.specs.GroupsLaws.{no_batch, named_cons, named_none}
use Rattle.session_group.specs.SendingLaws.{Sending, sending_start, sending_fits, sending_next, sending_refused, sending_end}
use Rattle.session_group.proofs.send_all.Given as goal

abbrev pub invariant-loop-place : goal.invariant-loop-place
invariant-loop-place l =
    (l.place ≤ l.count) × Sending l.session l.next (named_batch l.count l.batches) l.sets l.at l.place

abbrev pub decreases-loop-place : goal.decreases-loop-place
decreases-loop-place l = l.count - l.place

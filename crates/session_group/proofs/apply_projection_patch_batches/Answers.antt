-- `apply_projection_patch_batches` meets its contract: what is no group is refused first, then the batches are sent.
use Prim.Native.Nat.{ℕ}
use mathlib.Core.Path.{◌≡◌, refl, sym, ap, subst, ◌∙◌}
use mathlib.Core.Bool.{Bool, false}
use mathlib.Core.List.{List}
use borrow.Author.Rules.{rules}
use lib.ListN.{length}
use Rattle.std.specs.Prelude.{if◌then◌else◌}
use Rattle.spec_group.specs.Group.{group_number}
use Rattle.shell_player.specs.declared.session.ShellSession.{ShellSession}
use Rattle.session_group.specs.declared.GroupBatch.{GroupBatch}
use Rattle.session_group.specs.declared.ProjectionPatchGroup.{ProjectionPatchGroup}
use Rattle.session_group.specs.Groups.{names_group, no_group, GroupCall, AnyGroupCall}
use Rattle.session_group.specs.GroupsLaws.{group_named, names_group_lem}
use Rattle.session_group.specs.SendingLaws.{group_refused, group_sent}
use Rattle.session_group.proofs.apply_projection_patch_batches.Goals as goal

-- what is no group has the answer 17 and the session that came
refused : (s : ShellSession) (places : List GroupBatch) (count : ℕ) (sets : List ℕ) → names_group count places (length sets) ≡ false → GroupCall s places count sets (no_group s) × AnyGroupCall s places count sets (no_group s)
refused s places count sets e = (
  record { became = λ m h bs names. group_refused s sets m h bs names e },
  record { kept = refl; number = λ bs names. ap (λ (t : Bool). if t then 0 else group_number) (sym (names_group_lem names sets ∙ e)) },
)

pub send_all-requires : goal.send_all-requires
send_all-requires c =
    group_named c.args.count c.args.batches (length c.args.sets.now) (sym c.is_group.ensures ∙ c.if-is_group.true)

pub returns-then-is_group : goal.returns-then-is_group
returns-then-is_group c =
    let is = sym c.is_group.ensures ∙ c.if-is_group.true in
    record { holding = record { became = λ m h bs names. group_sent c.args.session c.args.sets.now m h bs names c.send_all.result is (c.send_all.ensures.holding m h) }; whatever = record { kept = c.send_all.ensures.whatever; number = λ bs names. c.send_all.ensures.numbered ∙ ap (λ (t : Bool). if t then 0 else group_number) (sym (names_group_lem names c.args.sets.now ∙ is)) } }

pub returns : goal.returns
returns c =
    let all = let is = sym c.is_group.ensures ∙ c.if-is_group.false in
    subst (λ (r : ProjectionPatchGroup). GroupCall c.args.session c.args.batches c.args.count c.args.sets.now r × AnyGroupCall c.args.session c.args.batches c.args.count c.args.sets.now r) (sym c.not_a_group.ensures) (refused c.args.session c.args.batches c.args.count c.args.sets.now is) in record { holding = all.0; whatever = all.1 }

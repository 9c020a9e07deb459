-- `check_quick::quick_patches::check_patch` meets its contract: its head, then its operations.
use Prim.Native.Nat.{ℕ, ◌+◌}
use mathlib.Core.Path.{◌≡◌, sym, ap, ◌∙◌}
use mathlib.Core.Bool.{Bool, ◌||◌}
use mathlib.Core.List.{List}
use native.Mathlib.Omega.{arith}
use lib.ListN.{drop}
use Rattle.std.specs.Prelude as code
use Rattle.std.proofs.lemmas.Result.{err_from_is_err_and}
use Rattle.spec_lists.specs.Bytes.{Bytes}
use Rattle.spec_lists.proofs.BytesLaws.{bytes_of}
use Rattle.spec_patch.specs.Edition.{Edition}
use Rattle.spec_patch.specs.Reader.{read, refused}
use Rattle.spec_checks.specs.Target.{MutationTarget}
use Rattle.projection_patch.specs.Meaning.{edition_of, envelope_of}
use Rattle.patch_sets.proofs.ReadAt.{HeadReadAt, head_at, no_head_at}
use Rattle.patch_sets.proofs.Runs.{run_length, patch_read, head_refused}
use Rattle.check_quick.specs.Anchors.{anchored}
use Rattle.check_quick.specs.Quick.{head_found}
use Rattle.check_quick.specs.QuickAnswers.{patch_answer}
use Rattle.check_quick.specs.declared.quick_operations.Tally.{Tally}
use Rattle.check_quick.proofs.QuickRuns.{operations_got, no_operations, patch_checked}
use Rattle.check_quick.proofs.quick_patches.check_patch.Goals as goal
use Rattle.check_quick.proofs.quick_patches.check_patch.Goals.{After-read_patch_head, In_ok-head}

abbrev set : After-read_patch_head → List ℕ
set c = c.args.set.now

abbrev edition : After-read_patch_head → Edition
edition c = edition_of c.args.edition

abbrev known : After-read_patch_head → MutationTarget → Bool
known c = anchored c.args.nodes.now c.args.bindings.now c.args.collections.now

all_bytes : (c : After-read_patch_head) → Bytes (set c)
all_bytes c = bytes_of (set c) (λ j. (c.type_inv.set j).fits)

-- the head that was read
front : (c : In_ok-head) → HeadReadAt (set (goal.at.In_ok-head c).After-read_patch_head) c.args.at c.in_ok-head.head c.in_ok-head.taken
front c = head_at (set (goal.at.In_ok-head c).After-read_patch_head) c.args.at c.read_patch_head.ensures (all_bytes (goal.at.In_ok-head c).After-read_patch_head) (omega arith) c.in_ok-head.was

pub returns-in_err-head : goal.returns-in_err-head
returns-in_err-head c =
    let here = (goal.at.returns-in_err-head c).After-read_patch_head in
    let g = no_head_at (set here) c.args.at c.read_patch_head.ensures c.in_err-head.was in
    let q = err_from_is_err_and c.from_residual.result c.from_residual.ensures.1 in
    q.1 ∙ ap code.Err (q.2 ∙ sym g.same) ∙ sym (ap (patch_answer (known here) _) (head_refused (edition here) (set here) c.args.at g))

pub check_operations-requires : goal.check_operations-requires
check_operations-requires c = let f = front (goal.at.check_operations-requires c).In_ok-head in (f.within, f.few)

pub returns-in_err-tally : goal.returns-in_err-tally
returns-in_err-tally c =
    let here = (goal.at.returns-in_err-tally c).After-read_patch_head in
    let f = front (goal.at.returns-in_err-tally c).In_ok-head in
    let g = no_operations (edition here) (known here) (set here) (c.args.at + c.in_ok-head.taken) c.in_ok-head.head.operation_count c.check_operations.ensures c.in_err-tally.was in
    let q = err_from_is_err_and c.from_residual-in_err-tally.result c.from_residual-in_err-tally.ensures.1 in
    q.1 ∙ ap code.Err (q.2 ∙ sym g.same) ∙ sym (ap (patch_answer (known here) _) (patch_read (edition here) (set here) c.args.at f (refused g.fault) g.is))

pub returns : goal.returns
returns c =
    let here = (goal.at.returns c).After-read_patch_head in
    let f = front (goal.at.returns c).In_ok-head in
    let n = c.in_ok-head.head.operation_count in
    let from = c.args.at + c.in_ok-head.taken in
    let end = c.in_ok-tally.end in
    let os = operations_got (edition here) (known here) (set here) from n c.check_operations.ensures (all_bytes here) c.in_ok-tally.was in
    let long = run_length (edition here) (set here) from n (all_bytes here) os.a (drop end (set here)) os.is in
    patch_checked (edition here) (known here) f os.a end (patch_read (edition here) (set here) c.args.at f (read os.a (drop end (set here))) os.is) long os.there c.patch_found-found.result c.in_ok-tally.tally.absent
    (c.patch_found-found.ensures ∙ ap (λ (t : Tally). head_found (envelope_of c.in_ok-head.head.envelope) n || t.found) (sym os.same))
    (ap (λ (t : Tally). t.absent) (sym os.same))

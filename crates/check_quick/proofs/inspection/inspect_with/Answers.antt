-- `check_quick::inspection::inspect_with` meets its contract: the length of the set, its heading, then its patches.
use Prim.Native.Nat.{ℕ}
use mathlib.Core.Path.{sym, ap, ◌∙◌}
use mathlib.Core.List.{List}
use native.Mathlib.Omega.{arith}
use borrow.Author.Tests.{lt-leb}
use lib.ListN.{length}
use Rattle.std.specs.Prelude as code
use Rattle.std.proofs.lemmas.Result.{err_from_is_err_and}
use Rattle.spec_lists.proofs.BytesLaws.{bytes_of}
use Rattle.spec_patch.specs.Sizes.{set_bytes}
use Rattle.spec_patch.specs.Edition.{Edition}
use Rattle.spec_patch.specs.Read.{read_set}
use Rattle.projection_patch.specs.Meaning.{edition_of}
use Rattle.patch_sets.proofs.PatchAnswers.{no_heading}
use Rattle.patch_sets.proofs.ReadAt.{HeadingReadAt, heading_at}
use Rattle.patch_sets.proofs.Runs.{set_by_patches, no_set}
use Rattle.check_quick.specs.QuickAnswers.{inspected_by, inspection_answer}
use Rattle.check_quick.proofs.inspection.inspect_with.Goals as goal
use Rattle.check_quick.proofs.inspection.inspect_with.Goals.{In_ok-count}

-- the heading that was read
front : (c : In_ok-count) → HeadingReadAt (edition_of c.args.edition) c.args.set.now c.in_ok-count.count c.in_ok-count.at
front c = heading_at (edition_of c.args.edition) c.args.set.now (bytes_of c.args.set.now (λ j. (c.type_inv.set j).fits)) c.read_heading.ensures c.in_ok-count.was

pub returns-then-set-gt-BYTES : goal.returns-then-set-gt-BYTES
unfolding read_set inspected_by
returns-then-set-gt-BYTES c = rw (lt-leb (length c.args.set.now) set_bytes c.if-set-gt-BYTES.true)

pub returns-in_err-count : goal.returns-in_err-count
unfolding inspected_by
returns-in_err-count c =
    let g = no_heading c.args.set.now 0 (edition_of c.args.edition) c.read_heading.result c.read_heading.ensures c.in_err-count.field-0.0 c.in_err-count.was in
    let q = err_from_is_err_and c.from_residual.result c.from_residual.ensures.1 in
    q.1 ∙ ap code.Err (q.2 ∙ sym g.same) ∙ sym (ap (inspection_answer c.args.nodes.now c.args.bindings.now c.args.collections.now) (no_set (edition_of c.args.edition) c.args.set.now (omega arith) g))

pub inspect_patches-requires : goal.inspect_patches-requires
inspect_patches-requires c = let f = front (goal.at.inspect_patches-requires c).In_ok-count in (f.within, (f.few, c.requires))

pub returns : goal.returns
returns c =
    c.inspect_patches.ensures
    ∙ ap (inspection_answer c.args.nodes.now c.args.bindings.now c.args.collections.now) (sym (set_by_patches (edition_of c.args.edition) c.args.set.now (omega arith) (front (goal.at.returns c).In_ok-count).got))

-- `patch_locate::set::locate_set` meets its contract.
use Rattle.std.specs.Prelude.{◌≡◌, Err, length}
use Rattle.std.proofs.Common.{ap, ◌∙◌, arith}
use Rattle.std.proofs.lemmas.Result.{err_from_is_err_and}
use Rattle.spec_explain.specs.Locate.{locate}
use Rattle.projection_patch.specs.Meaning.{edition_of}
use Rattle.patch_locate.specs.Answers.{end_to, located_set}
use Rattle.patch_locate.specs.SetPositions.{set_end_is, set_too_long_lem, end_left, end_read, end_stop}
use Rattle.patch_locate.proofs.set.locate_set.Goals as goal
use Rattle.patch_locate.proofs.set.locate_set.Goals.{After-way}

-- the end of the way is that of the whole
told : (c : After-way) → end_to (length c.args.set.now) c.way.result ≡ located_set (locate (edition_of c.args.edition) c.args.set.now)
told c = ap (end_to (length c.args.set.now)) c.way.ensures ∙ set_end_is (edition_of c.args.edition) c.args.set.now (omega arith)

pub returns-then-set-gt-BYTES : goal.returns-then-set-gt-BYTES
returns-then-set-gt-BYTES c =
    ap Err c.outside.ensures ∙ set_too_long_lem (edition_of c.args.edition) c.args.set.now (omega arith)

pub returns-in_err-at : goal.returns-in_err-at
returns-in_err-at c =
    let p = err_from_is_err_and c.from_residual.result c.from_residual.ensures.1 in
    rw (p.1, p.2) (end_stop (length c.args.set.now) c.way.result _ c.in_err-at.was ∙ told (goal.at.returns-in_err-at c).After-way)

pub returns-then-at-set : goal.returns-then-at-set
returns-then-at-set c =
    ap Err c.outside-then-at-set.ensures ∙ end_left (length c.args.set.now) c.way.result _ c.in_ok-at.was (omega arith) ∙ told (goal.at.returns-then-at-set c).After-way

pub returns : goal.returns
returns c = end_read (length c.args.set.now) c.way.result _ c.in_ok-at.was (omega arith) ∙ told (goal.at.returns c).After-way

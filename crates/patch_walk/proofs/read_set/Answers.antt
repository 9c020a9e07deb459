-- `patch_walk::read_set` meets its contract: its opening, then what is left.
use mathlib.Core.Path.{◌≡◌, sym, ◌∙◌, subst}
use Rattle.std.proofs.lemmas.Result.{err_from_is_err_and}
use Rattle.spec_lists.proofs.BytesLaws.{bytes_of}
use Rattle.projection_patch.specs.Meaning.{edition_of}
use Rattle.patch_walk.specs.Steps.{OpenAnswer}
use Rattle.patch_walk.specs.SetReadsLaws.{OpeningLeft, opening_left}
use Rattle.patch_walk.proofs.read_set.Goals as goal
use Rattle.patch_walk.proofs.read_set.Goals.{After-open_set}

left : (c : After-open_set) (r : OpenAnswer) → c.open_set.result ≡ r → OpeningLeft (edition_of c.args.edition) c.args.set.now r
left c r q =
    let ed = edition_of c.args.edition in
    let set = c.args.set.now in
    subst (OpeningLeft ed set) (sym c.open_set.ensures ∙ q) (opening_left ed set (bytes_of set (λ j. (c.type_inv.set j).fits)))

pub returns-in_err-open_set : goal.returns-in_err-open_set
returns-in_err-open_set c =
    let p = err_from_is_err_and c.from_residual.result c.from_residual.ensures.1 in
    rw (p.1, p.2) (left (goal.at.returns-in_err-open_set c).After-open_set _ c.in_err-open_set.was)

pub returns : goal.returns
returns c = c.read_steps.ensures ∙ left (goal.at.returns c).After-open_set _ c.in_ok-open_set.was

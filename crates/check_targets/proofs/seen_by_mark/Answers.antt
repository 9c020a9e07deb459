-- `check_targets::seen_by_mark` meets its contract: a target without a mark was not seen; else the scan tells.
use mathlib.Core.Path.{◌≡◌, sym, ap, ◌∙◌}
use Prim.Native.Nat.{ℕ}
use native.Mathlib.Omega.{arith}
use lib.ListN.{get_or, take}
use Rattle.check_targets.specs.Targets.{check_target_of}
use Rattle.check_targets.specs.Marks.{mark_of}
use Rattle.check_targets.specs.MarksLaws.{mark_within, unmarked_unseen, marked_more}
use Rattle.check_targets.proofs.seen_by_mark.Goals as goal

-- the place of the mark is within the marks
pub bounds-marks-place : goal.bounds-marks-place
bounds-marks-place c = rw c.mark_of-place.ensures (omega (arith, mark_within (check_target_of c.args.target), c.requires.1.long))

pub bounds-marks-place-2 : goal.bounds-marks-place-2
bounds-marks-place-2 c = rw c.mark_of-place.ensures (omega (arith, mark_within (check_target_of c.args.target), c.requires.1.long))

pub returns-then-mark-eq0 : goal.returns-then-mark-eq0
returns-then-mark-eq0 c =
    let place : c.mark_of-place.result ≡ mark_of (check_target_of c.args.target) = c.mark_of-place.ensures in record { seen = sym (unmarked_unseen c.args.marks.now (take c.args.used c.args.targets.now) (check_target_of c.args.target) c.requires.1 (ap (λ (i : ℕ). get_or c.args.marks.now i 0) (sym place) ∙ c.if-mark-eq0.true)); kept = c.put_target.ensures; marked = rw place (marked_more c.args.marks.now (take c.args.used c.args.targets.now) (check_target_of c.args.target) c.requires.1) }

pub returns : goal.returns
returns c =
    let place : c.mark_of-place.result ≡ mark_of (check_target_of c.args.target) = c.mark_of-place.ensures in
    record { seen = c.seen_before.ensures.seen; kept = c.seen_before.ensures.kept; marked = rw place (marked_more c.args.marks.now (take c.args.used c.args.targets.now) (check_target_of c.args.target) c.requires.1) }

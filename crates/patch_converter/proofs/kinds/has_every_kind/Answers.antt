-- `kinds::has_every_kind` meets its contract: an edition with scores has every kind; else the values are asked from the first patch on.
use Prim.Native.Nat.{ℕ}
use mathlib.Core.Path.{◌≡◌, sym, ◌∙◌}
use mathlib.Core.List.{List}
use borrow.Author.Rules.{rules}
use Rattle.spec_lists.specs.Bytes.{Bytes}
use Rattle.spec_lists.proofs.BytesLaws.{bytes_of}
use Rattle.spec_patch.specs.Edition.{Edition}
use Rattle.projection_patch.specs.Meaning.{edition_of}
use Rattle.patch_walk.proofs.StepsLaws.{opened_at, never_unopened}
use Rattle.patch_converter.proofs.KindsLeft.{every_list}
use Rattle.patch_converter.proofs.kinds.has_every_kind.Goals as goal
use Rattle.patch_converter.proofs.kinds.has_every_kind.Goals.{After-open_set}

abbrev set : After-open_set → List ℕ
set k = k.args.set.now

abbrev from : After-open_set → Edition
from k = edition_of k.args.from

all_bytes : (k : After-open_set) → Bytes (set k)
all_bytes k = bytes_of (set k) (λ j. (k.type_inv.set j).fits)

pub returns-then-has_scores : goal.returns-then-has_scores
returns-then-has_scores c =
    λ ps reads. sym (every_list (edition_of c.args.to) (sym c.has_scores.ensures ∙ c.if-has_scores.true) ps)

pub returns : goal.returns
returns c =
    λ ps reads. c.has_kinds_left.ensures ps (opened_at (from (goal.at.returns c).After-open_set) (set (goal.at.returns c).After-open_set) (all_bytes (goal.at.returns c).After-open_set) ps reads c.open_set.ensures _ c.in-Ok.is)

pub returns-in_default : goal.returns-in_default
returns-in_default c =
    λ ps reads. absurd (never_unopened (from (goal.at.returns-in_default c).After-open_set) (set (goal.at.returns-in_default c).After-open_set) (all_bytes (goal.at.returns-in_default c).After-open_set) ps reads c.open_set.ensures _ c.in_default.is)

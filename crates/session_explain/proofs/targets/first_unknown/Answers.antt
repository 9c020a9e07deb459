-- `session_explain::targets::first_unknown` meets its contract: a readable set is opened, and walked.
use mathlib.Core.List.{List}
use Prim.Native.Nat.{ℕ}
use Rattle.spec_lists.specs.Bytes.{Bytes}
use Rattle.spec_lists.proofs.BytesLaws.{bytes_of}
use Rattle.spec_patch.specs.Edition.{Edition}
use Rattle.projection_patch.specs.Meaning.{edition_of}
use Rattle.patch_walk.proofs.StepsLaws.{opened_at, never_unopened}
use borrow.Author.Rules.{rules}
use Rattle.session_explain.proofs.targets.first_unknown.Goals as goal
use Rattle.session_explain.proofs.targets.first_unknown.Goals.{After-open_set}

abbrev set : After-open_set → List ℕ
set o = o.args.set.now

abbrev edition : After-open_set → Edition
edition o = edition_of o.args.edition

all_bytes : (o : After-open_set) → Bytes (set o)
all_bytes o = bytes_of (set o) (λ j. (o.type_inv.set j).fits)

pub returns-in_err-start : goal.returns-in_err-start
returns-in_err-start c =
    let o = (goal.at.returns-in_err-start c).After-open_set in
    λ cat ps lent e. absurd (never_unopened (edition o) (set o) (all_bytes o) ps e c.open_set.ensures _ c.in_err-start.was)

pub returns : goal.returns
returns c =
    let o = (goal.at.returns c).After-open_set in
    λ cat ps lent e. c.unknown_from.ensures cat ps lent (opened_at (edition o) (set o) (all_bytes o) ps e c.open_set.ensures _ c.in_ok-start.was)

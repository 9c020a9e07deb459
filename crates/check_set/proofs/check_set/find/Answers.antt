-- `check_set::check_set::find` meets its contract: the opening, the listing, then the records that fit.
use Prim.Native.Nat.{ℕ}
use mathlib.Core.Path.{◌≡◌, refl, sym, ap, ◌∙◌, subst}
use Rattle.std.specs.Prelude as code
use mathlib.Core.List.{List}
use Rattle.spec_lists.specs.Bytes.{Bytes}
use Rattle.spec_lists.proofs.BytesLaws.{bytes_of}
use Rattle.spec_patch.specs.Patch.{Patch}
use Rattle.spec_patch.specs.Edition.{Edition}
use Rattle.spec_patch.specs.Read.{patches, read_set}
use Rattle.spec_checks.specs.Findings.{findings}
use Rattle.projection_patch.specs.Meaning.{edition_of}
use Rattle.patch_walk.proofs.StepsLaws.{opened_at, never_unopened}
use Rattle.patch_walk.specs.CountLaws.{OpeningCounts, opening_counts}
use Rattle.check_set.specs.Listed.{FindingsListedAs}
use Rattle.check_set.proofs.Written.{answer_is, numbers_are}
use borrow.Author.Rules.{rules}
use Rattle.check_set.proofs.check_set.find.Goals as goal
use Rattle.check_set.proofs.check_set.find.Goals.{After-list_patches-listed, After-open_set}

abbrev set : After-open_set → List ℕ
set c = c.args.set.now

abbrev edition : After-open_set → Edition
edition c = edition_of c.args.edition

all_bytes : (c : After-open_set) → Bytes (set c)
all_bytes c = bytes_of (set c) (λ j. (c.type_inv.set j).fits)

listed-findings : (c : After-list_patches-listed) (ps : List Patch) → read_set (edition (goal.at.After-list_patches-listed c).After-open_set) (set (goal.at.After-list_patches-listed c).After-open_set) ≡ patches ps → FindingsListedAs (findings ps) c.list_patches-listed.result c.list_patches-listed.new.records
listed-findings c ps e =
    c.list_patches-listed.ensures ps (opened_at (edition (goal.at.After-list_patches-listed c).After-open_set) (set (goal.at.After-list_patches-listed c).After-open_set) (all_bytes (goal.at.After-list_patches-listed c).After-open_set) ps e c.open_set.ensures _ c.in_ok-start.was)

-- a readable set is not refused
pub returns-in_err-start : goal.returns-in_err-start
returns-in_err-start c =
    let here = (goal.at.returns-in_err-start c).After-open_set in
    let never : (ps : List Patch) → read_set (edition here) (set here) ≡ patches ps → ⊥ = λ ps e. never_unopened (edition here) (set here) (all_bytes here) ps e c.open_set.ensures _ c.in_err-start.was in
    record { answered = λ ps e. absurd (never ps e); written = λ ps e. absurd (never ps e) }

pub list_patches-listed-requires : goal.list_patches-listed-requires
list_patches-listed-requires c =
    let here = (goal.at.list_patches-listed-requires c).After-open_set in
    (subst OpeningCounts (sym c.open_set.ensures ∙ c.in_ok-start.was) (opening_counts (edition here) (set here) (all_bytes here)), search rules)

pub returns : goal.returns
returns c =
    let listed = listed-findings (goal.at.returns c).After-list_patches-listed in
    record {
      answered = λ ps e. ap code.Ok (c.write_answer.ensures.answered ∙ answer_is ps c.list_patches-listed.result _ (listed ps e) _ c.args.out.now refl);
      written = λ ps e. c.write_answer.ensures.written ∙ numbers_are ps c.list_patches-listed.result _ (listed ps e) _ c.args.out.now refl;
    }

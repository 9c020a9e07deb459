-- The theorem on what has changed speaks of a set: a text in it is cut off, by the answers of CutInstances.
use Rattle.std.specs.Prelude.{ℕ, ◌≡◌, true}
use Rattle.std.proofs.Common.{sym, ◌∙◌, arith}
use Rattle.spec_patch.specs.Edition.{v1}
use Rattle.spec_patch.specs.LengthFirst.{patches_over}
use Rattle.spec_patch.specs.CutOff.{CutOff, SetChange, as_before, changed}
use Rattle.spec_patch.proofs.CutLaws.{set_changed}
use Rattle.spec_examples.proofs.CutInstances.{cut_set, was_12, is_10, all_bytes}

-- a text in it is cut off
pub is_cut_off : CutOff true (patches_over v1) cut_set
is_cut_off = by_change (set_changed v1 cut_set all_bytes)
  where
    by_change : SetChange v1 cut_set → CutOff true (patches_over v1) cut_set
    by_change (as_before e) = absurd (let z : ◌≡◌ {A = ℕ} 0 1 = cc (sym was_12 ∙ e ∙ is_10) in omega arith)
    by_change (changed within c before now) = c

-- The judgement of a score is that of a value: it has the empty text at 0, which is within any texts.
use Prim.Native.Nat.{ℕ}
use mathlib.Core.Path.{◌≡◌, sym}
use mathlib.Core.List.{List}
use lib.Dec.{leb-zero}
use lib.ListN.{length}
use Rattle.spec_patch.specs.Edition.{Edition}
use Rattle.spec_patch.specs.Encode.{kind_of}
use Rattle.spec_patch.specs.Write.{allowed_value, well_formed, few_enough}
use Rattle.projection_patch.specs.declared.patch.ProjectionPatchValue.TheVariants.{Score}
use Rattle.patch_writer.specs.Survey.{judged_score, judged_value}

pub score_judged : (ed : Edition) (texts : List ℕ) (n : ℕ) → judged_score ed n ≡ judged_value ed texts (Score n)
unfolding judged_score judged_value well_formed allowed_value few_enough kind_of
score_judged ed texts n = sym (rw (leb-zero (length texts)))

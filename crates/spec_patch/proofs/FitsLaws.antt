-- A part of a patch list that fits, fits.
use Rattle.std.specs.Prelude.{◌+◌, ◌≡◌, length}
use Rattle.std.proofs.Common.{ap}
use mathlib.Core.List.{List, ◌++◌, flat_map}
use native.Mathlib.Omega.{arith}
use Rattle.std.proofs.Math.ListN.{length-append}
use Rattle.spec_lists.proofs.BytesLaws.{length_little_endian}
use Rattle.spec_lists.proofs.ListLaws.{flat_map_append, all_left, all_right}
use Rattle.spec_patch.specs.Patch.{Patch}
use Rattle.spec_patch.specs.Edition.{Edition}
use Rattle.spec_patch.specs.Encode.{u32, encode_counted, encode_patch, heading, encode}
use Rattle.spec_patch.specs.Fits.{FitsPatch, Fits}

module _ (ed : Edition) where
  -- the heading, four bytes of count, and the patches
  pub length_encode : (ps : List Patch) → length (encode ed ps) ≡ length (heading ed) + (4 + length (flat_map encode_patch ps))
  unfolding encode encode_counted
  length_encode ps = omega (
    arith,
    length-append (heading ed) (u32 (length ps) ++ flat_map encode_patch ps),
    length-append (u32 (length ps)) (flat_map encode_patch ps),
    length_little_endian 4 (length ps),
  )

  -- two parts are together as long as the whole
  length_parts : (a b : List Patch) → length (flat_map encode_patch (a ++ b)) ≡ length (flat_map encode_patch a) + length (flat_map encode_patch b)
  length_parts a b = omega (arith, ap length (flat_map_append encode_patch a b), length-append (flat_map encode_patch a) (flat_map encode_patch b))

  pub fits_left : (a b : List Patch) → Fits ed (a ++ b) → Fits ed a
  fits_left a b h = record {
    few = omega (arith, h.few, length-append a b);
    patches = all_left (FitsPatch ed) a b h.patches;
    short = omega (arith, h.short, length_encode a, length_encode (a ++ b), length_parts a b);
  }

  pub fits_right : (a b : List Patch) → Fits ed (a ++ b) → Fits ed b
  fits_right a b h = record {
    few = omega (arith, h.few, length-append a b);
    patches = all_right (FitsPatch ed) a b h.patches;
    short = omega (arith, h.short, length_encode b, length_encode (a ++ b), length_parts a b);
  }

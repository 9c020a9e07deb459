-- The set for a list has arrays of the right lengths, and is the set of that list: so whatever is read is written back byte for byte.
use Rattle.std.specs.Prelude.{ℕ, ◌-◌, ◌≡◌, true}
use Rattle.std.proofs.Common.{sym, ◌∙◌, arith}
use Rattle.std.proofs.Math.Path.{ap}
use mathlib.Core.List.{List, ◌++◌, map, map-append}
use borrow.Author.Tests.{le-leb}
use Rattle.std.proofs.Math.ListN.{length, take, length-append, length-map, length-replicate}
use Rattle.std.proofs.Math.Seq.{take_at}
use Rattle.spec_lists.specs.Lists.{all}
use Rattle.spec_lists.specs.Bytes.{Bytes}
use Rattle.spec_patch.specs.Sizes.{set_patches}
use Rattle.spec_patch.specs.Patch as model
use Rattle.spec_patch.specs.Edition.{Edition}
use Rattle.spec_patch.specs.Fits.{Fits}
use Rattle.spec_patch.specs.Read.{patches, read_set}
use Rattle.spec_patch.proofs.SetLaws.{was_encoded}
use Rattle.spec_patch.specs.Write.{wrote}
use Rattle.projection_patch.specs.declared.patch.ProjectionPatch.{ProjectionPatch}
use Rattle.patch_writer.specs.Set.{set_places, operation_at, list_from, heads, list_of, operation_total, used, counts_fit, inside_at, patch_set_bytes}
use Rattle.patch_writer.proofs.CallLaws.{Arrays, written_back}
use Rattle.patch_round_trip.specs.SetFor.{operations_for, texts_for, head_for, no_head, no_place, places_for, spare_heads, spare_places, set_for}
use Rattle.patch_round_trip.proofs.SetForLaws.{length_places, total, few_heads, list_back, stand, total_places, inside, enough_places}

module _ (ed : Edition) (ps : List model.Patch) (fits : Fits ed ps) where
  arrays : Arrays (set_for ps)
  unfolding set_for
  arrays = record {
    patches = length-append (map head_for ps) (spare_heads ps) ∙ omega (arith, length-map ps head_for, length-replicate (set_patches - length ps) no_head, fits.few);
    operations = length-append (places_for ps) (spare_places ps) ∙ omega (arith, length_places 0 (operations_for ps), length-replicate (set_places - length (operations_for ps)) no_place, enough_places ed ps fits);
  }

  heads_are : heads (set_for ps) ≡ map head_for ps
  unfolding set_for
  heads_are = take_at (map head_for ps) (spare_heads ps) (length ps) (length-map ps head_for)

  used_are : used (set_for ps) ≡ places_for ps
  unfolding set_for
  used_are =
      ap (λ (hs : List ProjectionPatch). take (operation_total hs) (set_for ps).operations) heads_are
      ∙ take_at (places_for ps) (spare_places ps) (operation_total (map head_for ps)) (sym (total_places ed ps fits))

  counts : counts_fit (set_for ps) ≡ true
  unfolding counts_fit set_for
  counts =
      rw (
        le-leb (length ps) set_patches fits.few,
        heads_are,
        few_heads ed ps fits.patches,
        le-leb (operation_total (map head_for ps)) set_places (omega (arith, total ps, enough_places ed ps fits)),
      )

  -- the set stands for the list
  pub list_is : list_of (texts_for ps) (set_for ps) ≡ ps
  unfolding set_for
  list_is =
      let f = operation_at (texts_for ps) in
      ap (λ (hs : List ProjectionPatch). list_from (texts_for ps) hs (set_for ps).operations) heads_are
      ∙ list_back (texts_for ps) ps (places_for ps ++ spare_places ps) (map f (spare_places ps)) (map-append f (places_for ps) (spare_places ps) ∙ ap (λ (os : List model.Operation). os ++ map f (spare_places ps)) (stand ed ps fits))

-- whatever is read is written back byte for byte, from the set for it
pub read_then_written : (ed : Edition) (bs : List ℕ) → Bytes bs → (ps : List model.Patch) → read_set ed bs ≡ patches ps → patch_set_bytes ed (texts_for ps) (set_for ps) ≡ wrote bs
read_then_written ed bs all_bytes ps e =
    let fits = (was_encoded ed bs ps all_bytes e).1 in
    written_back (texts_for ps) (set_for ps) (arrays ed ps fits) (counts ed ps fits) ed (ap (all (inside_at (texts_for ps))) (used_are ed ps fits) ∙ inside ed ps fits) bs all_bytes (e ∙ ap patches (sym (list_is ed ps fits)))

-- The patch list that a set by value stands for, its texts lent beside it, and what writing it gives: 01, 'Rejections', and 02,
-- 'Job 5' and 'Job 13': 12, then 10, then 12 for the characters of texts, then 14.
use Rattle.std.specs.Prelude.{ℕ, ◌+◌, Bool, ◌&&◌, List, [], ◌∷◌, map, leb, take, drop, if◌then◌else◌}
use Rattle.spec_lists.specs.Lists.{all}
use Rattle.spec_patch.specs.Sizes.{set_bytes, set_patches, patch_operations}
use Rattle.spec_patch.specs.Patch as model
use Rattle.spec_patch.specs.Edition.{Edition}
use Rattle.spec_patch.specs.Encode.{encode}
use Rattle.spec_patch.specs.Write.{over_capacity, malformed, value_passes, well_formed, few_enough, Written, wrote, refused}
use Rattle.projection_patch.specs.Meaning.{envelope_of, operation_of}
use Rattle.projection_patch.specs.declared.patch.ProjectionPatch.{ProjectionPatch}
use Rattle.projection_patch.specs.declared.patch.OperationPlace.{OperationPlace}
use Rattle.projection_patch.specs.declared.patch.ProjectionPatchSet.{ProjectionPatchSet}
use Rattle.patch_part_writer.specs.Extent.{head_size, operation_size, operation_text}
use Rattle.patch_part_writer.specs.Parts.{short_text, inside_texts}

-- the operations that a set has places for
abbrev pub set_places : ℕ
set_places = 3120

-- ---- the list

abbrev pub operation_at : List ℕ → OperationPlace → model.Operation
operation_at texts p = operation_of texts p.operation

-- a patch takes as many operations as its head counts, and the next patch goes on behind them
unfoldable pub list_from : List ℕ → List ProjectionPatch → List OperationPlace → List model.Patch
list_from texts [] places = []
list_from texts (h ∷ hs) places =
    record { envelope = envelope_of h.envelope; operations = map (operation_at texts) (take h.operation_count places) }
    ∷ list_from texts hs (drop h.operation_count places)

-- the first patch_count heads
abbrev pub heads : ProjectionPatchSet → List ProjectionPatch
heads set = take set.patch_count set.patches

abbrev pub list_of : List ℕ → ProjectionPatchSet → List model.Patch
list_of texts set = list_from texts (heads set) set.operations

-- ---- its extent

-- how many operations the heads count
unfoldable pub operation_total : List ProjectionPatch → ℕ
operation_total [] = 0
operation_total (h ∷ hs) = h.operation_count + operation_total hs

-- the places that hold an operation of the list
abbrev pub used : ProjectionPatchSet → List OperationPlace
used set = take (operation_total (heads set)) set.operations

unfoldable pub head_sizes : List ProjectionPatch → ℕ
head_sizes [] = 0
head_sizes (h ∷ hs) = head_size h + head_sizes hs

unfoldable pub operation_sizes : List OperationPlace → ℕ
operation_sizes [] = 0
operation_sizes (p ∷ ps) = operation_size p.operation + operation_sizes ps

-- the heading and the patch count take 35 bytes
unfoldable pub set_size : ProjectionPatchSet → ℕ
set_size set = 35 + (head_sizes (heads set) + operation_sizes (used set))

-- ---- the tests

-- an operation count within its capacity
abbrev pub few_operations : ProjectionPatch → Bool
few_operations h = leb h.operation_count patch_operations

-- the arrays hold what is counted
unfoldable pub counts_fit : ProjectionPatchSet → Bool
counts_fit set =
    leb set.patch_count set_patches && (all few_operations (heads set) && leb (operation_total (heads set)) set_places)

abbrev pub short_at : OperationPlace → Bool
short_at p = short_text (operation_text p.operation)

abbrev pub inside_at : List ℕ → OperationPlace → Bool
inside_at texts p = inside_texts texts (operation_text p.operation)

-- every count, every text's length and the bytes of the set are within their capacities
unfoldable pub capacities_kept : ProjectionPatchSet → Bool
capacities_kept set = counts_fit set && (all short_at (used set) && leb (set_size set) set_bytes)

-- the value's text stands within the texts, and the edition may have the value
abbrev pub allowed_at : Edition → List ℕ → OperationPlace → Bool
allowed_at ed texts p = inside_at texts p && value_passes (well_formed ed) (operation_at texts p)

-- the characters of the value's text are within their capacity
abbrev pub few_at : List ℕ → OperationPlace → Bool
few_at texts p = value_passes few_enough (operation_at texts p)

-- the bytes of the list, or 12 for any capacity, then 10 for any value, then 12 for the characters of any text; 14 is the output's
unfoldable pub patch_set_bytes : Edition → List ℕ → ProjectionPatchSet → Written
patch_set_bytes ed texts set =
    if capacities_kept set then
    (if all (allowed_at ed texts) (used set) then
    (if all (few_at texts) (used set) then wrote (encode ed (list_of texts set)) else refused over_capacity)
    else refused malformed)
    else refused over_capacity

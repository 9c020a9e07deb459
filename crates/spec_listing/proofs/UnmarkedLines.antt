-- A projection and the same without its marks print alike: 02, Job 11.
use Rattle.std.specs.Prelude.{◌≡◌, refl}
use Rattle.std.proofs.Common.{ap₂}
use mathlib.Core.List.{List, [], ◌∷◌, ◌++◌, map, flat_map}
use Rattle.std.proofs.lemmas.List.{length-map}
use Rattle.spec_projection.specs.Projection.{Projection}
use Rattle.spec_projection.specs.RowMap.{map_rows}
use Rattle.spec_projection.specs.Marks.{unmarked, without_marks}
use Rattle.spec_listing.specs.Listing.{binding_line, availability_line, entry_line, record_count, projection_lines}

-- rows changed where their lines do not look
flat_map_same : {A B : Type 0} (f : A → A) (line : A → List B) → ((x : A) → line (f x) ≡ line x) → (l : List A) → flat_map line (map f l) ≡ flat_map line l
unfolding flat_map
flat_map_same f line same [] = refl
flat_map_same f line same (x ∷ l) = ap₂ (λ (a b : List _). a ++ b) (same x) (flat_map_same f line same l)

pub unmarked_lines : (p : Projection) → projection_lines (without_marks p) ≡ projection_lines p
unfolding projection_lines record_count without_marks map_rows unmarked binding_line availability_line entry_line
unmarked_lines p =
    rw (
      length-map p.bindings unmarked.binding,
      length-map p.availabilities unmarked.availability,
      length-map p.entries unmarked.entry,
      flat_map_same unmarked.binding binding_line (λ b. refl) p.bindings,
      flat_map_same unmarked.availability availability_line (λ a. refl) p.availabilities,
      flat_map_same unmarked.entry entry_line (λ e. refl) p.entries,
    )

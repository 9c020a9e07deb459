-- The line of a lookup.
use Rattle.std.specs.Prelude.{ℕ, ◌≡◌, Bool, true, false, List, [], ◌∷◌, if◌then◌else◌}
use Rattle.std.proofs.Math.Path.{refl}
use Rattle.std.proofs.Common.{ap}
use Rattle.std.proofs.Math.Option.{Option, none, some, map}
use Rattle.spec_patch.specs.Patch.{Value, quad, signed, text, unsigned, score, Availability}
use Rattle.spec_decimal.specs.Decimal.{decimal}
use Rattle.spec_listing.specs.Listing.{fields}
use Rattle.spec_replay.specs.Answers.{dash, value_line, availability_answer_line, mark_line}
use Rattle.panel_rows.specs.Lookup.{found_value, value_lookup, availability_lookup}
use Rattle.panel_rows.specs.declared.values.ValueLookup.{ValueLookup}
use Rattle.panel_rows.specs.declared.values.AvailabilityLookup.{AvailabilityLookup}
use Rattle.listing_lines.specs.LookupFields.{lookup_fields, found_fields}

-- V and what was found, or a dash
unfoldable pub found_line : Bool → List (List ℕ) → List ℕ
found_line found shown = 86 ∷ fields (if found then shown else dash ∷ [])

unfoldable pub value_lookup_line : ValueLookup → List ℕ
value_lookup_line l = found_line l.found (lookup_fields l)

unfoldable pub availability_lookup_line : AvailabilityLookup → List ℕ
availability_lookup_line l = found_line l.found ((65 ∷ []) ∷ decimal l.availability ∷ [])

-- a lookup that tells a value has the line of that value, whatever its mark
pub value_looked_up : (mark : Option ℕ) (o : Option Value) → value_lookup_line (value_lookup mark o) ≡ value_line o
unfolding value_lookup_line found_line value_lookup value_line
value_looked_up mark none = refl
value_looked_up mark (some (quad q)) = ap (λ (fs : List (List ℕ)). 86 ∷ fields fs) (found_fields _ (quad q))
value_looked_up mark (some (signed z)) = ap (λ (fs : List (List ℕ)). 86 ∷ fields fs) (found_fields _ (signed z))
value_looked_up mark (some (text t)) = ap (λ (fs : List (List ℕ)). 86 ∷ fields fs) (found_fields _ (text t))
value_looked_up mark (some (unsigned x)) = ap (λ (fs : List (List ℕ)). 86 ∷ fields fs) (found_fields _ (unsigned x))
value_looked_up mark (some (score n)) = ap (λ (fs : List (List ℕ)). 86 ∷ fields fs) (found_fields _ (score n))

pub availability_looked_up : (mark : Option ℕ) (o : Option Availability) → availability_lookup_line (availability_lookup mark o) ≡ availability_answer_line o
unfolding availability_lookup_line found_line availability_lookup availability_answer_line
availability_looked_up mark none = refl
availability_looked_up mark (some a) = refl

-- X and the mark of what was found, or a dash
unfoldable pub mark_lookup_line : Bool → ℕ → List ℕ
mark_lookup_line found mark = 88 ∷ fields (if found then decimal mark ∷ [] else dash ∷ [])

-- what was found has its mark beside it
found_mark : (m : ℕ) (v : Value) → mark_lookup_line (found_value m v).found (found_value m v).mark ≡ mark_line (some m)
unfolding mark_lookup_line mark_line
found_mark m (quad q) = refl
found_mark m (signed z) = refl
found_mark m (text t) = refl
found_mark m (unsigned x) = refl
found_mark m (score n) = refl

-- so a lookup of a row's value and mark has the line of the mark
module _ {A : Type 0} (mark : A → ℕ) where
  pub value_mark_told : (value : A → Value) (row : Option A) → let l = value_lookup (map mark row) (map value row) in mark_lookup_line l.found l.mark ≡ mark_line (map mark row)
  unfolding value_lookup mark_lookup_line mark_line
  value_mark_told value none = refl
  value_mark_told value (some a) = found_mark (mark a) (value a)

  pub availability_mark_told : (availability : A → Availability) (row : Option A) → let l = availability_lookup (map mark row) (map availability row) in mark_lookup_line l.found l.mark ≡ mark_line (map mark row)
  unfolding availability_lookup mark_lookup_line mark_line
  availability_mark_told availability none = refl
  availability_mark_told availability (some a) = refl

-- ---- by the test

pub mark_found : (found : Bool) (mark : ℕ) → found ≡ true → 88 ∷ fields (decimal mark ∷ []) ≡ mark_lookup_line found mark
unfolding mark_lookup_line
mark_found found mark t = rw t

pub mark_not_found : (found : Bool) (mark : ℕ) → found ≡ false → 88 ∷ fields (dash ∷ []) ≡ mark_lookup_line found mark
unfolding mark_lookup_line
mark_not_found found mark f = rw f

pub found_line_lem : (found : Bool) (shown : List (List ℕ)) → found ≡ true → 86 ∷ fields shown ≡ found_line found shown
unfolding found_line
found_line_lem found shown t = rw t

pub not_found_line : (found : Bool) (shown : List (List ℕ)) → found ≡ false → 86 ∷ fields (dash ∷ []) ≡ found_line found shown
unfolding found_line
not_found_line found shown f = rw f

-- Given room, the writer succeeds exactly for the lists that fit, and reading its bytes gives the list back.
use Rattle.std.specs.Prelude.{ℕ, ◌≤◌, false, List, ◌↔◌, length, if◌then◌else◌}
use Rattle.std.proofs.Math.Path.{◌≡◌, refl}
use Rattle.std.proofs.Common.{ap, ◌∙◌, arith}
use Rattle.std.proofs.Math.Bool.{Bool, true}
use borrow.Author.Tests.{leb-true, le-leb}
use Rattle.std.proofs.Math.Dec.{leb}
use Rattle.spec_lists.specs.Lists.{all, All}
use Rattle.spec_lists.proofs.ListLaws.{and_left, and_right, all_map, all_of_test, test_of_all}
use Rattle.spec_patch.specs.Sizes.{set_bytes, set_patches, patch_operations, text_bytes, highest_score}
use Rattle.spec_patch.specs.Patch.{Value, quad, signed, text, unsigned, score, Operation, set_binding, set_availability, insert, update, remove, move, Patch}
use Rattle.spec_patch.specs.Edition.{Edition, has_kind}
use Rattle.spec_patch.specs.Encode.{kind_of, encode}
use Rattle.spec_patch.specs.Fits.{InRangeValue, OperationHolds, InRangeEnvelope, InRangePatch, InRange, Storable, StorableBy, FitsValue, FitsOperation, FitsPatch, Fits}
use Rattle.spec_patch.specs.Read.{patches, read_set}
use Rattle.spec_patch.specs.Write.{WriteRefusal, over_capacity, malformed, output_too_short, value_passes, all_values, short_enough, within_capacities, allowed_value, well_formed, few_enough, wrote, refused, write}
use Rattle.spec_patch.proofs.SetLaws.{reads_back}

-- ---- a property of an operation's value, and a test of it

-- the property and the test give another property
holds_of_test : (P Q : Value → Type 0) (test : Value → Bool) → ((v : Value) → P v → test v ≡ true → Q v)
    → (o : Operation) → OperationHolds P o → value_passes test o ≡ true → OperationHolds Q o
unfolding OperationHolds value_passes
holds_of_test P Q test f (set_binding n s v) h e = (h.0, (h.1.0, f v h.1.1 e))
holds_of_test P Q test f (set_availability n a) h e = h
holds_of_test P Q test f (insert c k b v) h e = (h.0, (h.1.0, (h.1.1.0, f v h.1.1.1 e)))
holds_of_test P Q test f (update c k v) h e = (h.0, (h.1.0, f v h.1.1 e))
holds_of_test P Q test f (remove c k) h e = h
holds_of_test P Q test f (move c k b) h e = h

-- the property gives the test
passes_of_holds : (P : Value → Type 0) (test : Value → Bool) → ((v : Value) → P v → test v ≡ true) → (o : Operation) → OperationHolds P o → value_passes test o ≡ true
unfolding OperationHolds value_passes
passes_of_holds P test f (set_binding n s v) h = f v h.1.1
passes_of_holds P test f (set_availability n a) h = refl
passes_of_holds P test f (insert c k b v) h = f v h.1.1.1
passes_of_holds P test f (update c k v) h = f v h.1.1
passes_of_holds P test f (remove c k) h = refl
passes_of_holds P test f (move c k b) h = refl

-- one property gives another
pub holds_map : (P Q : Value → Type 0) → ((v : Value) → P v → Q v) → (o : Operation) → OperationHolds P o → OperationHolds Q o
unfolding OperationHolds
holds_map P Q f (set_binding n s v) h = (h.0, (h.1.0, f v h.1.1))
holds_map P Q f (set_availability n a) h = h
holds_map P Q f (insert c k b v) h = (h.0, (h.1.0, (h.1.1.0, f v h.1.1.1)))
holds_map P Q f (update c k v) h = (h.0, (h.1.0, f v h.1.1))
holds_map P Q f (remove c k) h = h
holds_map P Q f (move c k b) h = h

-- ---- values

-- in range and short enough
abbrev ShortValue : Value → Type 0
ShortValue v = InRangeValue v × (short_enough v ≡ true)

storable : (v : Value) → ShortValue v → allowed_value v ≡ true → few_enough v ≡ true → Storable v
unfolding InRangeValue short_enough allowed_value few_enough StorableBy
storable (quad q) h e c = tt
storable (signed z) h e c = h.0
storable (text t) h e c = record { short = leb-true (length t) text_bytes h.1; utf8 = e; few = c }
storable (unsigned x) h e c = h.0
storable (score n) h e c = leb-true n highest_score e

record TestedValue (v : Value) : Type 0 where
  short : short_enough v ≡ true
  allowed : allowed_value v ≡ true
  few : few_enough v ≡ true

storable_tested : (v : Value) → Storable v → TestedValue v
unfolding short_enough allowed_value few_enough StorableBy
storable_tested (quad q) h = record { short = refl; allowed = refl; few = refl }
storable_tested (signed z) h = record { short = refl; allowed = refl; few = refl }
storable_tested (text t) h = record { short = le-leb (length t) text_bytes h.short; allowed = h.utf8; few = h.few }
storable_tested (unsigned x) h = record { short = refl; allowed = refl; few = refl }
storable_tested (score n) h = record { short = refl; allowed = le-leb n highest_score h; few = refl }

pub storable_in_range : (v : Value) → Storable v → InRangeValue v
unfolding InRangeValue StorableBy
storable_in_range (quad q) h = tt
storable_in_range (signed z) h = h
storable_in_range (text t) h = tt
storable_in_range (unsigned x) h = h
storable_in_range (score n) h = omega (arith, h)

module _ (ed : Edition) where
  -- in range, short enough and well formed
  abbrev WellFormedValue : Value → Type 0
  WellFormedValue v = ShortValue v × (well_formed ed v ≡ true)

  value_fits : (v : Value) → WellFormedValue v → few_enough v ≡ true → FitsValue ed v
  unfolding well_formed
  value_fits v h e = record { kind = and_left (has_kind ed (kind_of v)) _ h.1; storable = storable v h.0 (and_right (has_kind ed (kind_of v)) _ h.1) e }

  value_well_formed : (v : Value) → FitsValue ed v → well_formed ed v ≡ true
  unfolding well_formed
  value_well_formed v h = rw h.kind (storable_tested v h.storable).allowed

  -- ---- patches and sets

  -- the envelope is in range, the operations are few, and their values have the property
  record PatchHolds (P : Value → Type 0) (p : Patch) : Type 0 where
    envelope : InRangeEnvelope p.envelope
    few : length p.operations ≤ patch_operations
    operations : All (OperationHolds P) p.operations

  patch_counted : (p : Patch) → InRangePatch p → leb (length p.operations) patch_operations ≡ true → PatchHolds InRangeValue p
  patch_counted p h e = record { envelope = h.envelope; few = leb-true (length p.operations) patch_operations e; operations = h.operations }

  -- a test of every value gives every value another property
  list_of_test : (P Q : Value → Type 0) (test : Value → Bool) → ((v : Value) → P v → test v ≡ true → Q v)
      → (ps : List Patch) → All (PatchHolds P) ps → all_values test ps ≡ true → All (PatchHolds Q) ps
  unfolding all_values
  list_of_test P Q test f ps h e = all_of_test (PatchHolds P) (PatchHolds Q) (λ (p : Patch). all (value_passes test) p.operations) patch ps h e
    where
      patch : (p : Patch) → PatchHolds P p → all (value_passes test) p.operations ≡ true → PatchHolds Q p
      patch p g t = record {
        envelope = g.envelope;
        few = g.few;
        operations = all_of_test (OperationHolds P) (OperationHolds Q) (value_passes test) (holds_of_test P Q test f) p.operations g.operations t;
      }

  patch_fits : (p : Patch) → PatchHolds (FitsValue ed) p → FitsPatch ed p
  patch_fits p h = record { envelope = h.envelope; few = h.few; operations = h.operations }

  -- a list that passes the writer's tests fits
  pub fits_of_tests : (ps : List Patch) → InRange ps → within_capacities ed ps ≡ true → all_values (well_formed ed) ps ≡ true → all_values few_enough ps ≡ true → Fits ed ps
  unfolding within_capacities
  fits_of_tests ps r w t f =
      let counts : Patch → Bool = λ p. leb (length p.operations) patch_operations in
      let b = and_right (leb (length ps) set_patches) _ w in
      let c = and_right (all counts ps) _ b in
      let counted = all_of_test InRangePatch (PatchHolds InRangeValue) counts patch_counted ps r (and_left (all counts ps) _ b) in
      let shorts = list_of_test InRangeValue ShortValue short_enough (λ v h e. (h, e)) ps counted (and_left (all_values short_enough ps) _ c) in
      let formed = list_of_test ShortValue WellFormedValue (well_formed ed) (λ v h e. (h, e)) ps shorts t in
      let good = list_of_test WellFormedValue (FitsValue ed) few_enough value_fits ps formed f in
      record {
        few = leb-true (length ps) set_patches (and_left (leb (length ps) set_patches) _ w);
        patches = all_map (PatchHolds (FitsValue ed)) (FitsPatch ed) patch_fits ps good;
        short = leb-true (length (encode ed ps)) set_bytes (and_right (all_values short_enough ps) _ c);
      }

  -- what every value of a list that fits passes
  all_of_fits : (test : Value → Bool) → ((v : Value) → FitsValue ed v → test v ≡ true) → (ps : List Patch) → All (FitsPatch ed) ps → all_values test ps ≡ true
  unfolding all_values
  all_of_fits test f ps h =
      test_of_all (FitsPatch ed) (λ (p : Patch). all (value_passes test) p.operations)
      (λ p g. test_of_all (FitsOperation ed) (value_passes test) (passes_of_holds (FitsValue ed) test f) p.operations g.operations) ps h

  -- a list that fits passes them
  pub capacities_of_fits : (ps : List Patch) → Fits ed ps → within_capacities ed ps ≡ true
  unfolding within_capacities
  capacities_of_fits ps h =
      rw (
        le-leb (length ps) set_patches h.few,
        test_of_all (FitsPatch ed) (λ (p : Patch). leb (length p.operations) patch_operations) (λ p f. le-leb (length p.operations) patch_operations f.few) ps h.patches,
        all_of_fits short_enough (λ v s. (storable_tested v s.storable).short) ps h.patches,
        le-leb (length (encode ed ps)) set_bytes h.short,
      )

  pub well_formed_of_fits : (ps : List Patch) → Fits ed ps → all_values (well_formed ed) ps ≡ true
  well_formed_of_fits ps h = all_of_fits (well_formed ed) value_well_formed ps h.patches

  pub few_of_fits : (ps : List Patch) → Fits ed ps → all_values few_enough ps ≡ true
  few_of_fits ps h = all_of_fits few_enough (λ v s. (storable_tested v s.storable).few) ps h.patches

  -- numbers of a list that fits are in range
  pub fits_in_range : (ps : List Patch) → Fits ed ps → InRange ps
  fits_in_range ps h = all_map (FitsPatch ed) InRangePatch (λ p f. record { envelope = f.envelope; operations = all_map (FitsOperation ed) (OperationHolds InRangeValue) (holds_map (FitsValue ed) InRangeValue (λ v s. storable_in_range v s.storable)) p.operations f.operations }) ps h.patches

  -- ---- the writer

  -- what the writer wrote
  pub record Success (ps : List Patch) (room : ℕ) (bs : List ℕ) : Type 0 where
    pub fits : Fits ed ps
    pub bytes : bs ≡ encode ed ps
    pub enough : length (encode ed ps) ≤ room

  -- a list that fits is written, given room
  pub writes : (ps : List Patch) (room : ℕ) → Fits ed ps → length (encode ed ps) ≤ room → write ed ps room ≡ wrote (encode ed ps)
  unfolding write
  writes ps room h l = rw (capacities_of_fits ps h, well_formed_of_fits ps h, few_of_fits ps h, le-leb (length (encode ed ps)) room l)

  -- a list that is written fits, and what is written is its canonical bytes
  pub written_fits : (ps : List Patch) (room : ℕ) (bs : List ℕ) → InRange ps → write ed ps room ≡ wrote bs → Success ps room bs
  unfolding write
  written_fits ps room bs r e = go (within_capacities ed ps) refl (all_values (well_formed ed) ps) refl (all_values few_enough ps) refl (leb (length (encode ed ps)) room) refl e
    where
      never : {C : Type 0} (n : WriteRefusal) → refused n ≡ wrote bs → C
      never n e = absurd (let z : ◌≡◌ {A = ℕ} 0 1 = cc in omega arith)

      go : (w : Bool) → within_capacities ed ps ≡ w → (t : Bool) → all_values (well_formed ed) ps ≡ t → (f : Bool) → all_values few_enough ps ≡ f → (l : Bool) → leb (length (encode ed ps)) room ≡ l
          → (if w then (if t then (if f then (if l then wrote (encode ed ps) else refused output_too_short) else refused over_capacity) else refused malformed) else refused over_capacity) ≡ wrote bs → Success ps room bs
      go true w true t true f true l e = record { fits = fits_of_tests ps r w t f; bytes = cc; enough = leb-true (length (encode ed ps)) room l }
      go true w true t true f false l e = never output_too_short e
      go true w true t false f l m e = never over_capacity e
      go true w false t f g l m e = never malformed e
      go false w t u f g l m e = never over_capacity e

  -- given room, the writer succeeds exactly for the lists that fit
  pub writes_exactly : (ps : List Patch) (room : ℕ) → InRange ps → length (encode ed ps) ≤ room → (write ed ps room ≡ wrote (encode ed ps)) ↔ Fits ed ps
  writes_exactly ps room r l = (λ e. (written_fits ps room (encode ed ps) r e).fits, λ h. writes ps room h l)

  -- its bytes are read back
  pub written_reads : (ps : List Patch) (room : ℕ) (bs : List ℕ) → InRange ps → write ed ps room ≡ wrote bs → read_set ed bs ≡ patches ps
  written_reads ps room bs r e =
      let s = written_fits ps room bs r e in
      ap (read_set ed) s.bytes ∙ reads_back ed ps s.fits

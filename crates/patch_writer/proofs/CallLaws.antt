-- A set is written as spec_patch writes the list that it stands for, wherever its counts fit and its texts lie within the texts; what was
-- written is read back as the same list; and what is read is written back byte for byte.
use Rattle.std.specs.Prelude.{ℕ, ◌+◌, ◌≤◌, Bool, ◌&&◌, take, drop, Result, Ok, Err, if◌then◌else◌}
use Rattle.std.proofs.Math.Path.{◌≡◌, refl, sym, ap, ap₂}
use Rattle.std.proofs.Common.{◌∙◌, arith, length-take-le}
use Rattle.std.proofs.Math.Bool.{true, false}
use mathlib.Core.List.{List, [], ◌∷◌, ◌++◌, flat_map, append_assoc}
use borrow.Author.Tests.{leb-true, le-leb}
use Rattle.std.proofs.Math.Dec.{leb}
use Rattle.std.proofs.Math.ListN.{length, length-append}
use Rattle.spec_lists.specs.Lists.{all}
use Rattle.spec_lists.proofs.ListLaws.{and_left, and_right}
use Rattle.spec_lists.specs.Bytes.{Bytes}
use Rattle.spec_patch.specs.Sizes.{set_patches, patch_operations}
use Rattle.spec_patch.specs.Patch as model
use Rattle.spec_patch.specs.Edition.{Edition}
use Rattle.spec_patch.specs.Encode.{u32, heading, encode_counted, encode_patch, encode}
use Rattle.spec_patch.specs.Fits.{InRange, Fits}
use Rattle.spec_patch.specs.Read.{patches, read_set}
use Rattle.spec_patch.proofs.SetLaws.{reads_back, was_encoded}
use Rattle.spec_patch.specs.Write.{WriteRefusal, over_capacity, malformed, output_too_short, Written, wrote, refused, write, all_values, short_enough, well_formed, few_enough, within_capacities}
use Rattle.spec_patch.proofs.WriteLaws.{fits_of_tests, capacities_of_fits, well_formed_of_fits, few_of_fits}
use Rattle.bytes_wire.specs.Write.{has_room, overwrite}
use Rattle.bytes_wire.proofs.WriteLaws.{take_overwrite, overwrite_in_place, overwrite_refused}
use Rattle.projection_patch.specs.declared.patch.OperationPlace.{OperationPlace}
use Rattle.projection_patch.specs.declared.patch.ProjectionPatchSet.{ProjectionPatchSet}
use Rattle.patch_part_writer.specs.declared.written.WriteRefusal as call
use Rattle.patch_part_writer.specs.declared.written.WriteRefusal.TheVariants.{OutputTooShort}
use Rattle.patch_part_writer.specs.Answer.{refusal_to, written_at, output_at, with_room, write_answer_of, output_of}
use Rattle.patch_part_writer.specs.ExtentLaws.{length_heading}
use Rattle.patch_writer.specs.Set.{set_places, heads, list_of, operation_total, used, head_sizes, operation_sizes, set_size, few_operations, counts_fit, short_at, inside_at, capacities_kept, allowed_at, few_at, patch_set_bytes}
use Rattle.patch_writer.specs.RangeLaws.{PassedSet, passed_in_range}
use Rattle.patch_writer.specs.SetLaws.{length_list, counts_list, values_list, size_list, place_short, place_allowed, place_few}

-- the arrays of a set have their lengths, as those of every set that is passed have
pub record Arrays (set : ProjectionPatchSet) : Type 0 where
  pub patches : length set.patches ≡ set_patches
  pub operations : length set.operations ≡ set_places

pub passed_arrays : (set : ProjectionPatchSet) → PassedSet set → Arrays set
passed_arrays set p =
    let fields = p.known.1.1 in
    record { patches = fields.1.0.1.0.1; operations = fields.1.1.0.1.0.1 }

-- ---- from the start of the output

module _ (out : List ℕ) where
  from_start : (n : ℕ) → has_room out 0 n ≡ leb n (length out)
  unfolding has_room
  from_start n = ap (λ (k : ℕ). leb k (length out)) (omega arith)

  pub call_answer : (w : Written) → written_at out 0 w ≡ write_answer_of (with_room (length out) w)
  call_answer (refused n) = refl
  call_answer (wrote bs) = go (leb (length bs) (length out)) refl
    where
      go : (t : Bool) → leb (length bs) (length out) ≡ t → written_at out 0 (wrote bs) ≡ write_answer_of (with_room (length out) (wrote bs))
      go true e = rw (from_start (length bs), e) (ap Ok (omega arith))
      go false e = rw (from_start (length bs), e)

  pub call_output : (w : Written) → output_at out 0 w ≡ output_of out (with_room (length out) w)
  call_output (refused n) = refl
  call_output (wrote bs) = go (leb (length bs) (length out)) refl
    where
      go : (t : Bool) → leb (length bs) (length out) ≡ t → output_at out 0 (wrote bs) ≡ output_of out (with_room (length out) (wrote bs))
      go true e =
          let none : 0 + length bs ≡ length bs = omega arith in
          overwrite_in_place out 0 bs (length bs) refl (from_start (length bs) ∙ e)
          ∙ ap (λ (k : ℕ). bs ++ drop k out) none
          ∙ sym (ap (λ (t : Bool). output_of out (if t then wrote bs else refused output_too_short)) e)
      go false e =
          overwrite_refused out 0 bs (length bs) refl (from_start (length bs) ∙ e)
          ∙ sym (ap (λ (t : Bool). output_of out (if t then wrote bs else refused output_too_short)) e)

-- an allowed value's text is within the texts
pub allowed_inside : (ed : Edition) (texts : List ℕ) (ps : List OperationPlace) → all (allowed_at ed texts) ps ≡ true → all (inside_at texts) ps ≡ true
allowed_inside ed texts [] e = refl
allowed_inside ed texts (p ∷ ps) e =
    ap₂ (λ (a b : Bool). a && b)
    (and_left (inside_at texts p) _ (and_left (allowed_at ed texts p) (all (allowed_at ed texts) ps) e))
    (allowed_inside ed texts ps (and_right (allowed_at ed texts p) (all (allowed_at ed texts) ps) e))

-- ---- a set whose counts fit

module _ (texts : List ℕ) (set : ProjectionPatchSet) (arrays : Arrays set) (fit : counts_fit set ≡ true) where
  pub few_patches : set.patch_count ≤ set_patches
  unfolding counts_fit
  few_patches = leb-true set.patch_count set_patches (and_left (leb set.patch_count set_patches) _ fit)

  pub few_operations_lem : all few_operations (heads set) ≡ true
  unfolding counts_fit
  few_operations_lem = and_left (all few_operations (heads set)) _ (and_right (leb set.patch_count set_patches) _ fit)

  pub places_suffice : operation_total (heads set) ≤ length set.operations
  unfolding counts_fit
  places_suffice =
      omega (arith, arrays.operations, leb-true (operation_total (heads set)) set_places (and_right (all few_operations (heads set)) _ (and_right (leb set.patch_count set_patches) _ fit)))

  pub many_heads : length (heads set) ≡ set.patch_count
  many_heads = length-take-le set.patch_count set.patches (omega (arith, arrays.patches, few_patches))

  many_patches : length (list_of texts set) ≡ set.patch_count
  many_patches = length_list texts (heads set) set.operations ∙ many_heads

  module _ (inside : all (inside_at texts) (used set) ≡ true) where
    pub patches_size : length (flat_map encode_patch (list_of texts set)) ≡ head_sizes (heads set) + operation_sizes (used set)
    patches_size = size_list texts (heads set) set.operations places_suffice inside

    pub patches_fit : 35 + length (flat_map encode_patch (list_of texts set)) ≡ set_size set
    unfolding set_size
    patches_fit = ap (λ (n : ℕ). 35 + n) patches_size

  module _ (ed : Edition) where
    -- the heading and the patch count, and the patches behind them
    pub encode_parts : encode ed (list_of texts set) ≡ (heading ed ++ u32 set.patch_count) ++ flat_map encode_patch (list_of texts set)
    unfolding encode encode_counted
    encode_parts =
        ap (λ (n : ℕ). heading ed ++ (u32 n ++ flat_map encode_patch (list_of texts set))) many_patches
        ∙ sym (append_assoc (heading ed) (u32 set.patch_count) (flat_map encode_patch (list_of texts set)))

    module _ (inside : all (inside_at texts) (used set) ≡ true) where
      pub encode_size : length (encode ed (list_of texts set)) ≡ set_size set
      unfolding set_size
      encode_size =
          ap length encode_parts
          ∙ length-append (heading ed ++ u32 set.patch_count) (flat_map encode_patch (list_of texts set))
          ∙ ap₂ (λ (a b : ℕ). a + b) (length_heading ed set.patch_count) (patches_size inside)

      capacities_agree : within_capacities ed (list_of texts set) ≡ capacities_kept set
      unfolding within_capacities capacities_kept
      capacities_agree =
          let one : leb (length (list_of texts set)) set_patches ≡ true = le-leb (length (list_of texts set)) set_patches (omega (arith, many_patches, few_patches)) in
          let two : all (λ (p : model.Patch). leb (length p.operations) patch_operations) (list_of texts set) ≡ true = counts_list texts (heads set) set.operations places_suffice ∙ few_operations_lem in
          let three : all_values short_enough (list_of texts set) ≡ all short_at (used set) = values_list texts short_enough short_at (place_short texts) (heads set) set.operations places_suffice inside in
          rw (one, two, three, encode_size, fit)

      allowed_agree : all_values (well_formed ed) (list_of texts set) ≡ all (allowed_at ed texts) (used set)
      allowed_agree = values_list texts (well_formed ed) (allowed_at ed texts) (place_allowed texts ed) (heads set) set.operations places_suffice inside

      few_agree : all_values few_enough (list_of texts set) ≡ all (few_at texts) (used set)
      few_agree = values_list texts few_enough (few_at texts) (place_few texts) (heads set) set.operations places_suffice inside

      -- the set is written as the list that it stands for
      pub write_agrees : (room : ℕ) → write ed (list_of texts set) room ≡ with_room room (patch_set_bytes ed texts set)
      unfolding write patch_set_bytes
      write_agrees room = rw (capacities_agree, allowed_agree, few_agree) (go (capacities_kept set) (all (allowed_at ed texts) (used set)) (all (few_at texts) (used set)))
        where
          go : (k a f : Bool) → (if k then (if a then (if f then with_room room (wrote (encode ed (list_of texts set))) else refused over_capacity) else refused malformed) else refused over_capacity) ≡ with_room room (if k then (if a then (if f then wrote (encode ed (list_of texts set)) else refused over_capacity) else refused malformed) else refused over_capacity)
          go true true true = refl
          go true true false = refl
          go true false f = refl
          go false a f = refl

      -- a list that was read is written back byte for byte
      pub written_back : (bs : List ℕ) → Bytes bs → read_set ed bs ≡ patches (list_of texts set) → patch_set_bytes ed texts set ≡ wrote bs
      unfolding patch_set_bytes
      written_back bs all_bytes e =
          let encoded = was_encoded ed bs (list_of texts set) all_bytes e in
          let kept : capacities_kept set ≡ true = sym capacities_agree ∙ capacities_of_fits ed (list_of texts set) encoded.1 in
          let allowed : all (allowed_at ed texts) (used set) ≡ true = sym allowed_agree ∙ well_formed_of_fits ed (list_of texts set) encoded.1 in
          let few : all (few_at texts) (used set) ≡ true = sym few_agree ∙ few_of_fits ed (list_of texts set) encoded.1 in
          rw (kept, allowed, few) (ap wrote (sym encoded.0))

      fits_list : InRange (list_of texts set) → capacities_kept set ≡ true → all (allowed_at ed texts) (used set) ≡ true → all (few_at texts) (used set) ≡ true → Fits ed (list_of texts set)
      fits_list range kept allowed few = fits_of_tests ed (list_of texts set) range (capacities_agree ∙ kept) (allowed_agree ∙ allowed) (few_agree ∙ few)

-- ---- any set

module _ (ed : Edition) (texts : List ℕ) (set : ProjectionPatchSet) where
  -- a set that is written
  pub record CallSuccess (bs : List ℕ) : Type 0 where
    pub kept : capacities_kept set ≡ true
    pub allowed : all (allowed_at ed texts) (used set) ≡ true
    pub few : all (few_at texts) (used set) ≡ true
    pub bytes : bs ≡ encode ed (list_of texts set)

  pub call_success : (bs : List ℕ) → patch_set_bytes ed texts set ≡ wrote bs → CallSuccess bs
  unfolding patch_set_bytes
  call_success bs e = go (capacities_kept set) refl (all (allowed_at ed texts) (used set)) refl (all (few_at texts) (used set)) refl e
    where
      never : {C : Type 0} (n : WriteRefusal) → refused n ≡ wrote bs → C
      never n e = absurd (let z : ◌≡◌ {A = ℕ} 0 1 = cc in omega arith)

      go : (k : Bool) → capacities_kept set ≡ k → (a : Bool) → all (allowed_at ed texts) (used set) ≡ a → (f : Bool) → all (few_at texts) (used set) ≡ f
          → (if k then (if a then (if f then wrote (encode ed (list_of texts set)) else refused over_capacity) else refused malformed) else refused over_capacity) ≡ wrote bs → CallSuccess bs
      go true k true a true f e = record { kept = k; allowed = a; few = f; bytes = cc }
      go true k true a false f e = never over_capacity e
      go true k false a f g e = never malformed e
      go false k a b f g e = never over_capacity e

  counted : capacities_kept set ≡ true → counts_fit set ≡ true
  unfolding capacities_kept
  counted e = and_left (counts_fit set) _ e

  -- what the call wrote, the reader reads as the same list
  pub written_read : PassedSet set → (out : List ℕ) (r : Result ℕ call.WriteRefusal) (o : List ℕ) → r ≡ written_at out 0 (patch_set_bytes ed texts set) → o ≡ output_at out 0 (patch_set_bytes ed texts set)
      → (n : ℕ) → r ≡ Ok n → read_set ed (take n o) ≡ patches (list_of texts set)
  written_read passed out r o answer output n e = ap (λ (l : List ℕ). read_set ed (take n l)) output ∙ by_result (patch_set_bytes ed texts set) refl (sym answer ∙ e)
    where
      never : {C : Type 0} (w : WriteRefusal) → Err (refusal_to w) ≡ Ok n → C
      never w e = absurd (let z : ◌≡◌ {A = ℕ} 0 1 = cc in omega arith)

      by_room : (bs : List ℕ) → patch_set_bytes ed texts set ≡ wrote bs → (t : Bool) → has_room out 0 (length bs) ≡ t → (if t then Ok (0 + length bs) else Err OutputTooShort) ≡ Ok n
          → read_set ed (take n (overwrite out 0 bs)) ≡ patches (list_of texts set)
      by_room bs is true room e =
          let s = call_success bs is in
          let position : n ≡ 0 + length bs = cc in
          let fits = fits_list texts set (passed_arrays set passed) (counted s.kept) ed (allowed_inside ed texts (used set) s.allowed) (passed_in_range texts set passed) s.kept s.allowed s.few in
          ap (read_set ed) (ap (λ (k : ℕ). take k (overwrite out 0 bs)) position ∙ take_overwrite out 0 bs (length bs) refl room ∙ s.bytes) ∙ reads_back ed (list_of texts set) fits
      by_room bs is false room e = never output_too_short e

      by_result : (w : Written) → patch_set_bytes ed texts set ≡ w → written_at out 0 w ≡ Ok n → read_set ed (take n (output_at out 0 w)) ≡ patches (list_of texts set)
      by_result (wrote bs) is e = by_room bs is (has_room out 0 (length bs)) refl e
      by_result (refused w) is e = never w e

  -- what the reader read as the list of a set, the call writes back byte for byte, given room
  pub read_written : PassedSet set → counts_fit set ≡ true → all (inside_at texts) (used set) ≡ true → (bs : List ℕ) → Bytes bs → read_set ed bs ≡ patches (list_of texts set)
      → (out : List ℕ) → length bs ≤ length out → (written_at out 0 (patch_set_bytes ed texts set) ≡ Ok (length bs)) × (take (length bs) (output_at out 0 (patch_set_bytes ed texts set)) ≡ bs)
  read_written passed fit inside bs all_bytes e out enough =
      let back = written_back texts set (passed_arrays set passed) fit ed inside bs all_bytes e in
      let room = from_start out (length bs) ∙ le-leb (length bs) (length out) enough in
      let position : 0 + length bs ≡ length bs = omega arith in (
        ap (written_at out 0) back ∙ rw room (ap Ok position),
        ap (λ (w : Written). take (length bs) (output_at out 0 w)) back ∙ ap (λ (k : ℕ). take k (overwrite out 0 bs)) (sym position) ∙ take_overwrite out 0 bs (length bs) refl room,
      )

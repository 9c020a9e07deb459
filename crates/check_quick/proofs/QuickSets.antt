-- Runs of patches that are read and checked, one turn at a time: what is left, after what was counted and found, answers as the whole does.
use Prim.Native.Nat.{ℕ, suc, ◌+◌, ◌-◌, ◌<◌, ◌≤◌}
use mathlib.Core.Path.{◌≡◌, refl, sym, ap, ap₂, ◌∙◌}
use mathlib.Core.Bool.{Bool, false, ◌||◌}
use mathlib.Core.List.{List, [], ◌∷◌, ◌++◌, flat_map}
use mathlib.Core.Option.{Option, none, some}
use native.Mathlib.Omega.{arith}
use borrow.Author.Tests.{lt-ltb, le-ltb}
use lib.ListN.{length, take, drop, set, length-append, length-drop}
use Rattle.std.specs.Prelude.{if◌then◌else◌}
use Rattle.spec_lists.specs.Bytes.{Bytes}
use Rattle.spec_lists.proofs.BytesLaws.{bytes_drop, length_little_endian}
use Rattle.spec_patch.specs.Patch.{Envelope, Patch}
use Rattle.spec_patch.specs.Edition.{Edition}
use Rattle.spec_patch.specs.Encode.{u32, u64, encode_optional, encode_operation, encode_envelope, encode_counted, encode_patch}
use Rattle.spec_patch.specs.Reader.{Result, read, refused, onward, many}
use Rattle.spec_patch.specs.Read.{read_patch, SetReading, patches, fault, ended}
use Rattle.spec_patch.proofs.ReadLaws.{patch_codec}
use Rattle.spec_checks.specs.Target.{MutationTarget}
use Rattle.spec_projection.specs.Apply.{operations_of}
use Rattle.projection_patch.specs.Meaning.{envelope_of}
use Rattle.projection_patch.specs.ReadAnswers.{fault_to, anywhere}
use Rattle.projection_patch.specs.declared.read_values.ProjectionPatchReadFault.{ProjectionPatchReadFault}
use Rattle.std.specs.Prelude as code
use Rattle.projection_patch.proofs.Answers.{Got, NotGot, got, not_got}
use Rattle.patch_sets.specs.SetAnswers.{operation_count_lem}
use Rattle.check_findings.specs.IdsLaws.{ids_snoc}
use Rattle.check_targets.specs.ToldLaws.{envelope_back}
use Rattle.check_quick.specs.Anchors.{absent_among, absent_of}
use Rattle.check_quick.specs.AnchorsLaws.{absent_of_append, absent_few}
use Rattle.check_quick.specs.Quick.{patch_found, after_found, patches_found, AtMost, least_patch}
use Rattle.check_quick.specs.QuickLaws.{or_assoc, or_false, quick_found, at_most_more}
use Rattle.check_quick.specs.QuickAnswers.{quick_checked_to, patch_answer, inspected_by, quick_end_answer}
use Rattle.check_quick.specs.declared.quick_patches.PatchChecked.{PatchChecked}
use Rattle.check_quick.specs.declared.inspection.SetInspection.{SetInspection}
use Rattle.check_quick.specs.declared.inspection.SetInspection.TheVariants as inspection

-- ---- a patch's answer taken apart

module _ (ed : Edition) (known : MutationTarget → Bool) (l : List ℕ) (at : ℕ) {r : code.Result (PatchChecked × ℕ) ProjectionPatchReadFault} (ensured : r ≡ patch_answer known (length l) (read_patch ed (drop at l))) where
  pub patch_got : Bytes l → {x : PatchChecked} {end : ℕ} → r ≡ code.Ok (x, end) → Got (read_patch ed) (anywhere (quick_checked_to known)) l at x end
  patch_got bytes {x} {end} = got (anywhere (quick_checked_to known)) (patch_codec ed) l at r ensured bytes x end

  pub no_patch : {f : ProjectionPatchReadFault} → r ≡ code.Err f → NotGot (read_patch ed) l at f
  no_patch {f} = not_got (anywhere (quick_checked_to known)) (patch_codec ed) l at r ensured f

-- ---- the bytes of a patch

before_number : (n x : ℕ) (r : List ℕ) → n ≤ length r → n + 8 ≤ length (u64 x ++ r)
before_number n x r h = omega (arith, length-append (u64 x) r, length_little_endian 8 x)

before_optional : (n : ℕ) (x : Option ℕ) (r : List ℕ) → n ≤ length r → n + 1 ≤ length (encode_optional x ++ r)
unfolding encode_optional
before_optional n none r h = omega arith
before_optional n (some x) r h = omega (arith, length-append (u64 x) r)

-- seven numbers and the surface
envelope_least : (e : Envelope) → 57 ≤ length (encode_envelope e)
unfolding encode_envelope
envelope_least e =
    before_number 49 e.id _ (before_number 41 e.stream _ (before_number 33 e.document _ (before_optional 32 e.surface _
    (before_number 24 e.previous _ (before_number 16 e.revision _ (before_number 8 e.epoch (u64 e.sequence) (omega (arith, length_little_endian 8 e.sequence))))))))

-- with the count of operations
encoded_least : (p : Patch) → least_patch ≤ length (encode_patch p)
unfolding encode_patch encode_counted
encoded_least p =
    let e = encode_envelope p.envelope in
    let count = u32 (length p.operations) in
    let operations = flat_map encode_operation p.operations in
    omega (arith, length-append e (count ++ operations), length-append count operations, length_little_endian 4 (length p.operations), envelope_least p.envelope)

-- a patch that was read takes the fewest bytes or more
pub least_taken : (ed : Edition) (known : MutationTarget → Bool) (l : List ℕ) (at : ℕ) → Bytes l → at ≤ length l → (x : PatchChecked) (end : ℕ) → Got (read_patch ed) (anywhere (quick_checked_to known)) l at x end → at + least_patch ≤ end
least_taken ed known l at bytes within x end g =
    let all = ((patch_codec ed).only (bytes_drop at l bytes) g.a (drop end l) g.is).1 in
    omega (arith, ap length all, length-drop at l, length-drop end l, length-append (encode_patch g.a) (drop end l), encoded_least g.a, g.there)

-- ---- ids

ids_front : (ids ids' : List ℕ) (used id : ℕ) → used < length ids → ids' ≡ set ids used id → take (used + 1) ids' ≡ take used ids ++ (id ∷ [])
ids_front ids ids' used id room are = let next : used + 1 ≡ suc used = omega arith in ap₂ (λ (k : ℕ) (m : List ℕ). take k m) next are ∙ ids_snoc ids used id room

pub at_most_still : (ids ids' : List ℕ) (used id highest higher : ℕ) → used < length ids → ids' ≡ set ids used id → AtMost highest (take used ids) → highest ≤ higher → id ≤ higher → AtMost higher (take (used + 1) ids')
at_most_still ids ids' used id highest higher room are h up below = rw (ids_front ids ids' used id room are) (at_most_more highest higher id (take used ids) h up below)

-- ---- patches

-- what was counted and found of the patches before
pub record PassedPatches : Type 0 where
  pub done : ℕ
  pub operations : ℕ
  pub absent : ℕ
  pub found : Bool

abbrev Inspected : Type 0
Inspected = code.Result SetInspection ProjectionPatchReadFault

-- an answer where there is no refusal
abbrev told : Bool → ℕ → ℕ → ℕ → Inspected
told found n m k = code.Ok (if found then inspection.Found else inspection.Clean n m k)

same_told : {b c : Bool} {n m k n' m' k' : ℕ} → b ≡ c → n ≡ n' → m ≡ m' → k ≡ k' → told b n m k ≡ told c n' m' k'
same_told p q r s = λ i. told (p i) (q i) (r i) (s i)

-- the answer of the patches that are left, after others with these ids, the last of them with the previous envelope
abbrev after : (MutationTarget → Bool) → PassedPatches → List ℕ → Option Envelope → SetReading → Inspected
after known t ids previous (patches ps) = told (t.found || patches_found ids previous ps) (t.done + length ps) (t.operations + operation_count_lem ps) (t.absent + absent_of known (operations_of ps))
after known t ids previous (fault f) = code.Err (fault_to f)

abbrev pub patches_left : Edition → (MutationTarget → Bool) → List ℕ → (at left : ℕ) → PassedPatches → List ℕ → Option Envelope → Inspected
patches_left ed known l at left t ids previous = after known t ids previous (ended (many left (read_patch ed) (drop at l)))

abbrev pub passed_patches : ℕ → ℕ → ℕ → Bool → PassedPatches
passed_patches d o a found = record { done = d; operations = o; absent = a; found = found }

module _ (ed : Edition) (known : MutationTarget → Bool) (l : List ℕ) (at left : ℕ) where
  pub none_passed : patches_left ed known l at left (passed_patches 0 0 0 false) [] none ≡ inspected_by known (ended (many left (read_patch ed) (drop at l)))
  unfolding inspected_by
  none_passed = go (ended (many left (read_patch ed) (drop at l)))
    where
      go : (r : SetReading) → after known (passed_patches 0 0 0 false) [] none r ≡ inspected_by known r
      go (patches ps) = same_told (quick_found ps) (omega arith) (omega arith) (omega arith)
      go (fault f) = refl

  module _ (t : PassedPatches) (previous : Option Envelope) where
    pub patches_end : (ids : List ℕ) (count : ℕ) → left ≡ 0 → t.done ≡ count → quick_end_answer (length l - at) t.found count t.operations t.absent ≡ patches_left ed known l at left t ids previous
    unfolding many ended patches_found operation_count_lem operations_of flat_map absent_among
    patches_end ids count all e = rw all (go (drop at l) (length-drop at l))
      where
        go : (rest : List ℕ) → length rest ≡ length l - at → quick_end_answer (length l - at) t.found count t.operations t.absent ≡ after known t ids previous (ended (read [] rest))
        go [] h = rw (le-ltb 0 (length l - at) (omega arith)) (same_told (sym (or_false t.found)) (omega arith) (omega arith) (omega arith))
        go (b ∷ rest) h = rw (lt-ltb 0 (length l - at) (omega arith))

    module _ (more : 0 < left) where
      one_more : (ids : List ℕ) (r : Inspected) → r ≡ patches_left ed known l at (suc (left - 1)) t ids previous → r ≡ patches_left ed known l at left t ids previous
      one_more ids r e = let same : suc (left - 1) ≡ left = omega arith in e ∙ ap (λ (n : ℕ). patches_left ed known l at n t ids previous) same

      pub patch_refused : (ids : List ℕ) (f : ProjectionPatchReadFault) → NotGot (read_patch ed) l at f → code.Err f ≡ patches_left ed known l at left t ids previous
      unfolding many ended
      patch_refused ids f g = one_more ids (code.Err f) (rw (g.is, g.same))

      module _ (x : PatchChecked) (end : ℕ) (g : Got (read_patch ed) (anywhere (quick_checked_to known)) l at x end) where
        abbrev p : Patch
        p = g.a

        -- behind the patch, by its envelope and by what was told of it
        abbrev next : Envelope → PatchChecked → Bool → PassedPatches
        next e y found = passed_patches (t.done + 1) (t.operations + y.head.operation_count) (t.absent + y.absent) found

        abbrev behind : List ℕ → Envelope → PatchChecked → Inspected
        behind ids e y = patches_left ed known l end (left - 1) (next e y ((t.found || y.found) || after_found ids previous e)) (ids ++ (e.id ∷ [])) (some e)

        step : (ids : List ℕ) → behind ids p.envelope (quick_checked_to known p) ≡ patches_left ed known l at left t ids previous
        unfolding many ended operation_count_lem patches_found operations_of flat_map
        step ids = one_more ids (behind ids p.envelope (quick_checked_to known p)) (rw g.is (go (many (left - 1) (read_patch ed) (drop end l))))
          where
            go : (r : Result (List Patch)) → after known (next p.envelope (quick_checked_to known p) ((t.found || patch_found p) || after_found ids previous p.envelope)) (ids ++ (p.envelope.id ∷ [])) (some p.envelope) (ended r)
                ≡ after known t ids previous (ended (onward r (λ ps rest. read (p ∷ ps) rest)))
            go (read ps []) =
                let rest = patches_found (ids ++ (p.envelope.id ∷ [])) (some p.envelope) ps in
                let own = after_found ids previous p.envelope in
                same_told (or_assoc (t.found || patch_found p) own rest ∙ or_assoc t.found (patch_found p) (own || rest)) (omega arith) (omega arith) (omega (arith, absent_of_append known p.operations (operations_of ps)))
            go (read ps (b ∷ rest)) = refl
            go (refused f) = refl

        pub patches_turn : (found' : Bool) (ids ids' : List ℕ) → t.done < length ids
            → found' ≡ ((t.found || x.found) || after_found (take t.done ids) previous (envelope_of x.head.envelope))
            → ids' ≡ set ids t.done (envelope_of x.head.envelope).id
            → patches_left ed known l end (left - 1) (next (envelope_of x.head.envelope) x found') (take (t.done + 1) ids') (some (envelope_of x.head.envelope)) ≡ patches_left ed known l at left t (take t.done ids) previous
        patches_turn found' ids ids' room found_is ids-are =
            let e = envelope_of x.head.envelope in
            let seen = take t.done ids in
            let front = ids_front ids ids' t.done e.id room ids-are in
            let own : e ≡ p.envelope = sym (ap (λ (y : PatchChecked). envelope_of y.head.envelope) g.same) ∙ envelope_back p.envelope in
            ap₂ (λ (b : Bool) (m : List ℕ). patches_left ed known l end (left - 1) (next e x b) m (some e)) found_is front
            ∙ ap₂ (behind seen) own (sym g.same)
            ∙ step seen

        -- no more targets are absent than there are operations
        pub few_absent : x.absent ≤ x.head.operation_count
        few_absent = rw (← g.same) (absent_few known p.operations)

        pub count_is : x.head.operation_count ≡ length p.operations
        count_is = sym (ap (λ (y : PatchChecked). y.head.operation_count) g.same)

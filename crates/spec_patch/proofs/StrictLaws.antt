-- The reader is strict: a patch list in range whose canonical bytes are read at all fits. So a reader that passes is proof of the
-- capacities, and nothing has to be asked of the list beforehand.
use Rattle.std.specs.Prelude.{ℕ, ◌≤◌, ◌<◌, ◌^◌, ◌≡◌, Bool, false, leb, if◌then◌else◌}
use Rattle.std.proofs.Math.Path.{refl}
use Rattle.std.proofs.Math.Bool.{true}
use mathlib.Core.List.{List, [], ◌∷◌, ◌++◌, append_assoc, append-nil, flat_map}
use native.Mathlib.Omega.{arith}
use Rattle.std.proofs.Common.{leb-true, lit<}
use Rattle.std.proofs.Math.ListN.{length, length-append}
use Rattle.spec_lists.specs.Lists.{All}
use Rattle.spec_lists.proofs.BytesLaws.{length_little_endian}
use Rattle.spec_text.specs.Syntax.{is_utf8}
use Rattle.spec_patch.specs.TextRule.{few_bytes, few_characters}
use Rattle.spec_patch.specs.Sizes.{set_bytes, set_patches, patch_operations, text_bytes, highest_score}
use Rattle.spec_patch.specs.Patch.{Value, quad, signed, text, unsigned, score, Operation, set_binding, set_availability, insert, update, remove, move, Patch}
use Rattle.spec_patch.specs.Edition.{Edition, has_kind}
use Rattle.spec_patch.specs.Encode.{u32, u64, encode_optional, encode_text, kind_of, value_body, encode_value, encode_operation, encode_envelope, encode_counted, encode_patch, heading, encode}
use Rattle.spec_patch.specs.Fits.{U64, U32, OptionalU64, InRangeValue, OperationHolds, InRangeEnvelope, InRangePatch, InRange, FitsText, Storable, StorableBy, FitsValue, FitsOperation, FitsPatch, Fits}
use Rattle.spec_patch.specs.Reader.{malformed, over_capacity, Result, read, refused, Reader, onward, pair, many, literal}
use Rattle.spec_patch.specs.Read.{read_u64, read_u32, read_score, read_optional, read_count, read_counted, read_text_by, read_text, value_after, in_edition, read_value_by, read_value, operation_after, read_operation_by, read_operation, read_envelope, read_patch, read_patches, patches, fault, ended, read_set}
use Rattle.spec_patch.proofs.Codec.{Codec}
use Rattle.spec_patch.proofs.ReadLaws.{u64_codec, u32_codec, optional_codec, count_codec, operation_codec, envelope_codec, patch_codec}
use Rattle.spec_patch.proofs.Codec.{bytes_codec, literal_codec}
use Rattle.spec_patch.proofs.SetLaws.{no_patches}

-- a reading succeeded
Succeeds : {A : Type 0} → Result A → Type 0
Succeeds (read a rest) = Unit {0}
Succeeds (refused f) = ⊥

-- where the whole succeeds, its first part does
first : {A B : Type 0} (r : Result A) (f : A → Reader B) → Succeeds (onward r f) → Succeeds r
unfolding Succeeds
first (read a rest) f h = tt
first (refused c) f h = h

-- a value in range, whose encoding is short enough for its counts, is good if it is read
record Strict {A : Type 0} (e : A → List ℕ) (Range Good : A → Type 0) (p : Reader A) : Type 0 where
  good : (a : A) → Range a → length (e a) < 2 ^ 32 → (rest : List ℕ) → Succeeds (p (e a ++ rest)) → Good a

-- a number is good where it is in range
same_strict : {A : Type 0} (e : A → List ℕ) (Good : A → Type 0) (p : Reader A) → Strict e Good Good p
same_strict e Good p = record { good = λ a g l rest s. g }

module _ {A B : Type 0} {eA : A → List ℕ} {RangeA GoodA : A → Type 0} {p : Reader A} (codec : Codec eA GoodA p) (strict : Strict eA RangeA GoodA p) where
  pair_strict : {eB : B → List ℕ} {RangeB GoodB : B → Type 0} {q : Reader B} → Strict eB RangeB GoodB q
      → Strict (λ (t : A × B). eA t.0 ++ eB t.1) (λ (t : A × B). RangeA t.0 × RangeB t.1) (λ (t : A × B). GoodA t.0 × GoodB t.1) (pair p q)
  pair_strict {eB} {q = q} second = record {
    good = λ t r l rest s.
        let long = length-append (eA t.0) (eB t.1) in
        let s₁ = rw (append_assoc (eA t.0) (eB t.1) rest) at s in
        let one = strict.good t.0 r.0 (omega arith) (eB t.1 ++ rest) (first (p (eA t.0 ++ (eB t.1 ++ rest))) _ s₁) in
        let s₂ = rw (codec.back t.0 one (eB t.1 ++ rest)) at s₁ in
        (one, second.good t.1 r.1 (omega arith) rest (first (q (eB t.1 ++ rest)) _ s₂));
  }

-- ---- counts

count_strict : {B : Type 0} (n capacity : ℕ) (rest : List ℕ) (f : ℕ → Reader B) → n < 2 ^ 32 → Succeeds (onward (read_count capacity (u32 n ++ rest)) f) → n ≤ capacity
unfolding Succeeds
count_strict n capacity rest f k s = go (leb n capacity) refl (rw (u32_codec.back n k rest) at s)
  where
    go : (t : Bool) → leb n capacity ≡ t → Succeeds (onward (if t then read n rest else refused over_capacity) f) → n ≤ capacity
    go true e s = leb-true n capacity e
    go false e s = absurd s

module _ {A : Type 0} (e : A → List ℕ) (Range Good : A → Type 0) (p : Reader A) (codec : Codec e Good p) (strict : Strict e Range Good p) where
  many_strict : (l : List A) (rest : List ℕ) → All Range l → length (flat_map e l) < 2 ^ 32 → Succeeds (many (length l) p (flat_map e l ++ rest)) → All Good l
  unfolding many flat_map
  many_strict [] rest h k s = tt
  many_strict (x ∷ l) rest h k s =
      let long = length-append (e x) (flat_map e l) in
      let s₁ = rw (append_assoc (e x) (flat_map e l) rest) at s in
      let one = strict.good x h.0 (omega arith) (flat_map e l ++ rest) (first (p (e x ++ (flat_map e l ++ rest))) _ s₁) in
      let s₂ = rw (codec.back x one (flat_map e l ++ rest)) at s₁ in
      (one, many_strict l rest h.1 (omega arith) (first (many (length l) p (flat_map e l ++ rest)) _ s₂))

  -- where each element takes a byte or more, the bytes bound the count
  at_least : ((a : A) → 0 < length (e a)) → (l : List A) → length l ≤ length (flat_map e l)
  unfolding flat_map
  at_least some' [] = omega arith
  at_least some' (x ∷ l) = omega (arith, some' x, at_least some' l, length-append (e x) (flat_map e l))

  counted_strict : (capacity : ℕ) → capacity < 2 ^ 32 → ((a : A) → 0 < length (e a))
      → Strict (encode_counted e) (All Range) (λ (l : List A). (length l ≤ capacity) × All Good l) (read_counted capacity p)
  unfolding encode_counted
  counted_strict capacity small some' = record {
    good = λ l r k rest s.
        let long = length-append (u32 (length l)) (flat_map e l) in
        let s₁ = rw (append_assoc (u32 (length l)) (flat_map e l) rest) at s in
        let few = count_strict (length l) capacity (flat_map e l ++ rest) (λ n. many n p) (omega (arith, at_least some' l)) s₁ in
        let s₂ = rw ((count_codec capacity small).back (length l) few (flat_map e l ++ rest)) at s₁ in
        (few, many_strict l rest r (omega arith) s₂);
  }

-- ---- values

text_strict : (t : List ℕ) → length (encode_text t) < 2 ^ 32 → (rest : List ℕ) → Succeeds (read_text (encode_text t ++ rest)) → FitsText t
unfolding encode_text read_text_by Succeeds
text_strict t k rest s =
    let long = length-append (u32 (length t)) t in
    let s₁ = rw (append_assoc (u32 (length t)) t rest, u32_codec.back (length t) (omega arith) (t ++ rest), (bytes_codec (length t)).back t refl rest) at s in
    let tested = by_bytes (few_bytes t) s₁ in
    record { short = leb-true (length t) text_bytes tested.0; utf8 = tested.1.0; few = tested.1.1 }
  where
    by_characters : (c : Bool) → Succeeds (if c then read t rest else refused over_capacity) → c ≡ true
    by_characters true s = refl
    by_characters false s = absurd s

    by_rule : (b : Bool) → Succeeds (onward (if b then read t rest else refused malformed) (λ l rest'. if few_characters true l then read l rest' else refused over_capacity)) → (b ≡ true) × (few_characters true t ≡ true)
    by_rule true s = (refl, by_characters (few_characters true t) s)
    by_rule false s = absurd s

    by_bytes : (b : Bool) → Succeeds (onward (onward (if b then read t rest else refused over_capacity) (λ l rest'. if is_utf8 l then read l rest' else refused malformed)) (λ l rest'. if few_characters true l then read l rest' else refused over_capacity)) → (b ≡ true) × ((is_utf8 t ≡ true) × (few_characters true t ≡ true))
    by_bytes true s = (refl, by_rule (is_utf8 t) s)
    by_bytes false s = absurd s

score_strict : (n : ℕ) (rest : List ℕ) → Succeeds (read_score (n ∷ rest)) → n ≤ highest_score
unfolding Succeeds
score_strict n rest s = go (leb n highest_score) refl s
  where
    go : (t : Bool) → leb n highest_score ≡ t → Succeeds (if t then read n rest else refused malformed) → n ≤ highest_score
    go true e s = leb-true n highest_score e
    go false e s = absurd s

kind_strict : (t : Bool) (r : Result Value) → Succeeds (if t then r else refused malformed) → (t ≡ true) × Succeeds r
unfolding Succeeds
kind_strict true r s = (refl, s)
kind_strict false r s = absurd s

stored_strict : (v : Value) → InRangeValue v → length (encode_value v) < 2 ^ 32 → (rest : List ℕ) → Succeeds (value_after true (kind_of v) (value_body v ++ rest)) → Storable v
unfolding InRangeValue StorableBy kind_of value_body encode_value value_after
stored_strict (quad q) r k rest s = tt
stored_strict (signed z) r k rest s = r
stored_strict (text t) r k rest s = text_strict t (omega arith) rest (first (read_text (encode_text t ++ rest)) _ s)
stored_strict (unsigned x) r k rest s = r
stored_strict (score n) r k rest s = score_strict n rest (first (read_score (n ∷ rest)) _ s)

-- an operation takes a byte or more
pub operation_some : (o : Operation) → 0 < length (encode_operation o)
unfolding encode_operation
operation_some (set_binding n s v) = omega arith
operation_some (set_availability n a) = omega arith
operation_some (insert c y b v) = omega arith
operation_some (update c y v) = omega arith
operation_some (remove c y) = omega arith
operation_some (move c y b) = omega arith

module _ (ed : Edition) where
  value_strict : Strict encode_value InRangeValue (FitsValue ed) (read_value ed)
  unfolding encode_value read_value_by in_edition
  value_strict = record {
    good = λ v r k rest s.
        let h = kind_strict (has_kind ed (kind_of v)) (value_after true (kind_of v) (value_body v ++ rest)) s in
        record { kind = h.0; storable = stored_strict v r k rest h.1 };
  }

  -- ---- operations

  abbrev u64_strict : Strict u64 U64 U64 read_u64
  u64_strict = same_strict u64 U64 read_u64

  operation_good : (o : Operation) → OperationHolds InRangeValue o → length (encode_operation o) < 2 ^ 32 → (rest : List ℕ) → Succeeds (read_operation ed (encode_operation o ++ rest)) → FitsOperation ed o
  unfolding OperationHolds encode_operation read_operation_by operation_after
  operation_good (set_binding n x v) r k rest s =
      (pair_strict u64_codec u64_strict (pair_strict u32_codec (same_strict u32 U32 read_u32) value_strict)).good (n, (x, v)) r (omega arith) rest (first _ _ s)
  operation_good (set_availability n a) r k rest s = r
  operation_good (insert c y b v) r k rest s =
      (pair_strict u64_codec u64_strict (pair_strict u64_codec u64_strict (pair_strict optional_codec (same_strict encode_optional OptionalU64 read_optional) value_strict))).good (c, (y, (b, v))) r (omega arith) rest (first _ _ s)
  operation_good (update c y v) r k rest s =
      (pair_strict u64_codec u64_strict (pair_strict u64_codec u64_strict value_strict)).good (c, (y, v)) r (omega arith) rest (first _ _ s)
  operation_good (remove c y) r k rest s = r
  operation_good (move c y b) r k rest s = r

  operation_strict : Strict encode_operation (OperationHolds InRangeValue) (FitsOperation ed) (read_operation ed)
  operation_strict = record { good = operation_good }

  -- ---- patches and sets

  patch_some : (p : Patch) → 0 < length (encode_patch p)
  unfolding encode_patch encode_counted
  patch_some p =
      let n = length p.operations in
      omega (arith, length-append (encode_envelope p.envelope) (u32 n ++ flat_map encode_operation p.operations), length-append (u32 n) (flat_map encode_operation p.operations), length_little_endian 4 n)

  patch_strict : Strict encode_patch InRangePatch (FitsPatch ed) (read_patch ed)
  unfolding encode_patch read_patch
  patch_strict = record {
    good = λ p r k rest s.
        let operations = counted_strict encode_operation (OperationHolds InRangeValue) (FitsOperation ed) (read_operation ed) (operation_codec ed) operation_strict patch_operations (lit< tt) operation_some in
        let g = (pair_strict envelope_codec (same_strict encode_envelope InRangeEnvelope read_envelope) operations).good (p.envelope, p.operations) (r.envelope, r.operations) k rest (first _ _ s) in
        record { envelope = g.0; few = g.1.0; operations = g.1.1 };
  }

  patches_strict : Strict (encode ed) InRange (λ (ps : List Patch). (length ps ≤ set_patches) × All (FitsPatch ed) ps) (read_patches ed)
  unfolding encode read_patches
  patches_strict = record {
    good = λ ps r k rest s.
        let all = counted_strict encode_patch InRangePatch (FitsPatch ed) (read_patch ed) (patch_codec ed) patch_strict set_patches (lit< tt) patch_some in
        let head = same_strict (λ (u : Unit {0}). heading ed) (λ (u : Unit {0}). Unit {0}) (literal (heading ed)) in
        ((pair_strict (literal_codec (heading ed)) head all).good (tt, ps) (tt, r) k rest (first _ _ s)).1;
  }

  -- a patch list in range whose canonical bytes are read fits
  pub fits_if_read : (ps qs : List Patch) → InRange ps → read_set ed (encode ed ps) ≡ patches qs → Fits ed ps
  unfolding read_set ended Succeeds
  fits_if_read ps qs r e = by_length (leb (length (encode ed ps)) set_bytes) refl e
    where
      succeeds : (x : Result (List Patch)) → ended x ≡ patches qs → Succeeds x
      succeeds (read a rest) e = tt
      succeeds (refused f) e = no_patches e

      by_length : (t : Bool) → leb (length (encode ed ps)) set_bytes ≡ t → (if t then ended (read_patches ed (encode ed ps)) else fault over_capacity) ≡ patches qs → Fits ed ps
      by_length true t e =
          let short = leb-true (length (encode ed ps)) set_bytes t in
          let s = succeeds (read_patches ed (encode ed ps)) e in
          let g = patches_strict.good ps r (omega arith) [] (rw (append-nil (encode ed ps)) s) in
          record { few = g.0; patches = g.1; short = short }
      by_length false t e = no_patches e

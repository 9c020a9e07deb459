-- What telling a text cut off from one too long has changed in reading, and nothing else: every list of bytes is read as it was, or a text in
-- it is cut off, and then it was 12 and is 10. One law for each way of putting readers together.
use Prim.Native.Nat.{ℕ, zero, suc, ◌≤◌, ◌<◌, ◌^◌}
use Rattle.std.specs.Prelude.{◌≡◌, Bool, eqb, take, if◌then◌else◌}
use Rattle.std.proofs.Math.Path.{refl}
use Rattle.std.proofs.Common.{sym, ap, subst, ◌∙◌, arith, lit<}
use Rattle.std.proofs.Math.Bool.{true, false}
use mathlib.Core.List.{List, [], ◌∷◌, ◌++◌, append_assoc}
use borrow.Author.Tests.{le-leb, lt-leb, leb-true, leb-false}
use Rattle.std.proofs.Math.Dec.{leb}
use Rattle.std.proofs.Math.ListN.{length}
use Rattle.std.proofs.Math.Seq.{length-take-le}
use Rattle.spec_lists.specs.Bytes.{Bytes}
use Rattle.spec_lists.proofs.BytesLaws.{bytes_right}
use Rattle.spec_patch.specs.Sizes.{set_bytes, set_patches, patch_operations, text_bytes}
use Rattle.spec_patch.specs.Patch.{Value, quad, signed, text, unsigned, score}
use Rattle.spec_patch.specs.Edition.{Edition, has_kind}
use Rattle.spec_patch.specs.Encode.{u32, heading}
use Rattle.spec_patch.specs.Reader.{Fault, malformed, over_capacity, Result, read, refused, Reader, Kept, onward, followed, mapped, pair, or_tag, no_tag, many, byte}
use Rattle.spec_patch.specs.Read.{read_u32, read_score, read_u64, read_i64, read_count, read_counted, read_optional, read_quad, read_availability, read_text_by, read_text, value_after_with, value_after, in_edition, read_value_by, to_set_binding, to_set_availability, to_insert, to_update, to_remove, to_move, operation_after_with, operation_after, read_operation_by, to_patch, read_patch, read_patches, fault, ended, read_set}
use Rattle.spec_patch.proofs.Codec.{Codec, never, literal_codec}
use Rattle.spec_patch.proofs.ReadLaws.{u64_codec, u32_codec, count_codec, optional_codec, operation_codec_by, envelope_codec, patch_codec}
use Rattle.spec_patch.proofs.FormerLaws.{same, kept_followed, kept_mapped}
use Rattle.spec_patch.specs.LengthFirst.{length_first_text, Over, text_over, value_over, operation_over, patch_over, patches_over, length_first_set}
use Rattle.spec_patch.specs.CutOff.{CutOff, Change, alike, cut_off, SetChange, as_before, changed}

module _ (check : Bool) where
  -- ---- texts

  data TextChange (bs : List ℕ) : Type 0 where
    same_text : length_first_text check bs ≡ read_text_by check bs → TextChange bs
    cut_text : (n : ℕ) (rest : List ℕ) → read_u32 bs ≡ read n rest → text_bytes < n → length rest < n → TextChange bs

  text_change : (bs : List ℕ) → TextChange bs
  unfolding length_first_text read_text_by
  text_change bs = by_field (read_u32 bs) refl
    where
      by_tests : (n : ℕ) (rest : List ℕ) → read_u32 bs ≡ read n rest → (there few : Bool) → leb n (length rest) ≡ there → leb n text_bytes ≡ few → TextChange bs
      by_tests n rest is true true t k =
          let named : length (take n rest) ≡ n = length-take-le n rest (leb-true n (length rest) t) in
          same_text (rw (is, k, t, le-leb (length (take n rest)) text_bytes (omega (arith, leb-true n text_bytes k))))
      by_tests n rest is true false t k =
          let named : length (take n rest) ≡ n = length-take-le n rest (leb-true n (length rest) t) in
          same_text (rw (is, k, t, lt-leb (length (take n rest)) text_bytes (omega (arith, leb-false n text_bytes k))))
      by_tests n rest is false true t k = same_text (rw (is, k, t))
      by_tests n rest is false false t k = cut_text n rest is (leb-false n text_bytes k) (leb-false n (length rest) t)

      by_field : (r : Result ℕ) → read_u32 bs ≡ r → TextChange bs
      by_field (read n rest) is = by_tests n rest is (leb n (length rest)) (leb n text_bytes) refl refl
      by_field (refused f) is = same_text (rw is)

  -- such a field was 12, and is 10
  module _ (n : ℕ) (bs rest : List ℕ) (is : read_u32 bs ≡ read n rest) where
    field_before : text_bytes < n → length_first_text check bs ≡ refused over_capacity
    unfolding length_first_text
    field_before h = rw (is, lt-leb n text_bytes h)

    field_now : length rest < n → read_text_by check bs ≡ refused malformed
    unfolding read_text_by
    field_now h = rw (is, lt-leb n (length rest) h)

  -- a text that is read was read alike
  kept_before : Kept (read_text_by check) (length_first_text check)
  kept_before = record { reads = λ bs t rest e. by_change bs t rest e (text_change bs) }
    where
      by_change : (bs t rest : List ℕ) → read_text_by check bs ≡ read t rest → TextChange bs → length_first_text check bs ≡ read t rest
      by_change bs t rest e (same_text q) = q ∙ e
      by_change bs t rest e (cut_text n left is long fewer) = never (sym (field_now n bs left is fewer) ∙ e)

  -- ---- one law for each way of putting readers together

  record Changes {A : Type 0} (reader : Over A) : Type 0 where
    kept : (texts : Reader (List ℕ)) → Kept (read_text_by check) texts → Kept (reader (read_text_by check)) (reader texts)
    change : (bs : List ℕ) → Bytes bs → Change check reader bs

  changes_text : Changes text_over
  changes_text = record { kept = λ texts k. k; change = λ bs h. by_change bs h (text_change bs) }
    where
      by_change : (bs : List ℕ) → Bytes bs → TextChange bs → Change check text_over bs
      by_change bs h (same_text e) = alike e
      by_change bs h (cut_text n rest is long fewer) =
          let o = u32_codec.only h n rest is in
          cut_off (record { front = []; n = n; rest = rest; stands = o.1; field = o.0; long = long; fewer = fewer; reached = λ texts k f q. ap texts o.1 ∙ q })

  -- a reader without texts
  plain : {A : Type 0} (p : Reader A) → Changes (λ texts. p)
  plain p = record { kept = λ texts k. same p; change = λ bs h. alike refl }

  -- what is cut off behind a front, where a fault there is the whole's
  carried : {A B : Type 0} {reader : Over A} {whole : Over B} {bs rest : List ℕ} (front : List ℕ) → bs ≡ front ++ rest
      → ((texts : Reader (List ℕ)) → Kept (read_text_by check) texts → (f : Fault) → reader texts rest ≡ refused f → whole texts bs ≡ refused f) → CutOff check reader rest → CutOff check whole bs
  carried front e on c = record {
    front = front ++ c.front;
    n = c.n;
    rest = c.rest;
    stands = e ∙ ap (λ (l : List ℕ). front ++ l) c.stands ∙ sym (append_assoc front c.front (u32 c.n ++ c.rest));
    field = c.field;
    long = c.long;
    fewer = c.fewer;
    reached = λ texts k f q. on texts k f (c.reached texts k f q);
  }

  module _ {A B : Type 0} (f : A → B) {reader : Over A} (one : Changes reader) where
    changes_mapped : Changes (λ texts. mapped f (reader texts))
    changes_mapped = record { kept = λ texts k. kept_mapped (one.kept texts k) f; change = λ bs h. by_change bs (one.change bs h) }
      where
        made : Result A → Result B
        made r = onward r (λ a rest. read (f a) rest)

        by_change : (bs : List ℕ) → Change check reader bs → Change check (λ texts. mapped f (reader texts)) bs
        by_change bs (alike e) = alike (ap made e)
        by_change bs (cut_off c) = cut_off (carried [] refl (λ texts k g q. ap made q) c)

  module _ {A B : Type 0} {e : A → List ℕ} {Good : A → Type 0} (reader : Over A) (codec : Codec e Good (reader (read_text_by check))) (one : Changes reader) where
    changes_followed : (next : Reader (List ℕ) → A → Reader B) → ((a : A) → Changes (λ texts. next texts a)) → Changes (λ texts. followed (reader texts) (next texts))
    changes_followed next each = record {
      kept = λ texts k. kept_followed (one.kept texts k) (next (read_text_by check)) (next texts) (λ a. (each a).kept texts k);
      change = λ bs h. by_first bs h (one.change bs h);
    }
      where
        on : Reader (List ℕ) → Result A → Result B
        on texts r = onward r (next texts)

        by_next : (bs : List ℕ) (a : A) (rest : List ℕ) → reader (length_first_text check) bs ≡ read a rest → reader (read_text_by check) bs ≡ read a rest → bs ≡ e a ++ rest → Change check (λ texts. next texts a) rest → Change check (λ texts. followed (reader texts) (next texts)) bs
        by_next bs a rest was is front (alike d) = alike (ap (on (length_first_text check)) was ∙ d ∙ sym (ap (on (read_text_by check)) is))
        by_next bs a rest was is front (cut_off c) = cut_off (carried (e a) front (λ texts k f q. ap (on texts) ((one.kept texts k).reads bs a rest is) ∙ q) c)

        by_result : (bs : List ℕ) → Bytes bs → reader (length_first_text check) bs ≡ reader (read_text_by check) bs → (r : Result A) → reader (read_text_by check) bs ≡ r → Change check (λ texts. followed (reader texts) (next texts)) bs
        by_result bs h q (refused f) is = alike (ap (on (length_first_text check)) (q ∙ is) ∙ sym (ap (on (read_text_by check)) is))
        by_result bs h q (read a rest) is =
            let o = codec.only h a rest is in
            by_next bs a rest (q ∙ is) is o.1 ((each a).change rest (bytes_right (e a) rest (subst Bytes o.1 h)))

        by_first : (bs : List ℕ) → Bytes bs → Change check reader bs → Change check (λ texts. followed (reader texts) (next texts)) bs
        by_first bs h (alike q) = by_result bs h q (reader (read_text_by check) bs) refl
        by_first bs h (cut_off c) = cut_off (carried [] refl (λ texts k f q. ap (on texts) q) c)

  module _ {A B : Type 0} {e : A → List ℕ} {Good : A → Type 0} {p : Reader A} (codec : Codec e Good p) {reader : Over B} (second : Changes reader) where
    changes_pair : Changes (λ texts. pair p (reader texts))
    changes_pair =
        changes_followed (λ texts. p) codec (plain p) (λ texts a. mapped (λ b. (a, b)) (reader texts)) (λ a. changes_mapped (λ b. (a, b)) second)

  module _ {A : Type 0} where
    -- a byte, and what follows it
    changes_byte : (next : Reader (List ℕ) → ℕ → Reader A) → ((t : ℕ) → Changes (λ texts. next texts t)) → Changes (λ texts. followed byte (next texts))
    changes_byte next each = record {
      kept = λ texts k. kept_followed (same byte) (next (read_text_by check)) (next texts) (λ t. (each t).kept texts k);
      change = by_bytes;
    }
      where
        by_next : (t : ℕ) (bs : List ℕ) → Change check (λ texts. next texts t) bs → Change check (λ texts. followed byte (next texts)) (t ∷ bs)
        by_next t bs (alike e) = alike e
        by_next t bs (cut_off c) = cut_off (carried (t ∷ []) refl (λ texts k f q. q) c)

        by_bytes : (bs : List ℕ) → Bytes bs → Change check (λ texts. followed byte (next texts)) bs
        by_bytes [] h = alike refl
        by_bytes (t ∷ bs) h = by_next t bs ((each t).change bs h.1)

    changes_tag : (k : ℕ) {here : Over A} {others : Reader (List ℕ) → ℕ → Reader A} → Changes here → ((t : ℕ) → Changes (λ texts. others texts t)) → (t : ℕ) → Changes (λ texts. or_tag k (here texts) (others texts) t)
    changes_tag k {here} {others} one each t = pick (eqb t k)
      where
        pick : (b : Bool) → Changes (λ texts bs. if b then here texts bs else others texts t bs)
        pick true = one
        pick false = each t

    changes_many : {e : A → List ℕ} {Good : A → Type 0} (reader : Over A) → Codec e Good (reader (read_text_by check)) → Changes reader → (n : ℕ) → Changes (λ texts. many n (reader texts))
    unfolding many
    changes_many reader codec one zero = plain (λ bs. read [] bs)
    changes_many reader codec one (suc n) =
        changes_followed reader codec one (λ texts a. mapped (λ more. a ∷ more) (many n (reader texts)))
        (λ a. changes_mapped (λ more. a ∷ more) (changes_many reader codec one n))

    changes_counted : {e : A → List ℕ} {Good : A → Type 0} (capacity : ℕ) → capacity < 2 ^ 32 → (reader : Over A) → Codec e Good (reader (read_text_by check)) → Changes reader → Changes (λ texts. read_counted capacity (reader texts))
    changes_counted capacity small reader codec one =
        changes_followed (λ texts. read_count capacity) (count_codec capacity small) (plain (read_count capacity)) (λ texts n. many n (reader texts))
        (changes_many reader codec one)

  -- ---- values, operations and patches

  module _ (ed : Edition) where
    changes_edition : {others : Reader (List ℕ) → ℕ → Reader Value} → ((t : ℕ) → Changes (λ texts. others texts t)) → (t : ℕ) → Changes (λ texts. in_edition ed (others texts) t)
    unfolding in_edition
    changes_edition {others} each t = pick (has_kind ed t)
      where
        pick : (b : Bool) → Changes (λ texts bs. if b then others texts t bs else refused malformed)
        pick true = each t
        pick false = plain (λ bs. refused malformed)

    changes_value : Changes (value_over ed)
    changes_value =
        changes_byte (λ texts. in_edition ed (value_after_with texts))
        (changes_edition
        (changes_tag 1 (plain (mapped quad read_quad))
        (changes_tag 2 (plain (mapped signed read_i64))
        (changes_tag 3 (changes_mapped text changes_text)
        (changes_tag 4 (plain (mapped unsigned read_u64))
        (changes_tag 5 (plain (mapped score read_score)) (λ t. plain (no_tag t))))))))

    changes_operation : Changes (operation_over ed)
    changes_operation =
        changes_byte (λ texts. operation_after_with (value_over ed texts))
        (changes_tag 1 (changes_mapped to_set_binding (changes_pair u64_codec (changes_pair u32_codec changes_value)))
        (changes_tag 2 (plain (mapped to_set_availability (pair read_u64 read_availability)))
        (changes_tag 3 (changes_mapped to_insert (changes_pair u64_codec (changes_pair u64_codec (changes_pair optional_codec changes_value))))
        (changes_tag 4 (changes_mapped to_update (changes_pair u64_codec (changes_pair u64_codec changes_value)))
        (changes_tag 5 (plain (mapped to_remove (pair read_u64 read_u64)))
        (changes_tag 6 (plain (mapped to_move (pair read_u64 (pair read_u64 read_optional)))) (λ t. plain (no_tag t))))))))

    changes_patch : Changes (patch_over ed)
    unfolding read_operation_by operation_after read_value_by value_after
    changes_patch =
        changes_mapped to_patch
        (changes_pair envelope_codec (changes_counted patch_operations (lit< tt) (operation_over ed) (operation_codec_by check ed) changes_operation))

  -- ---- the theorem, of each reader

  -- where a text is cut off, 12 was given and 10 is
  module _ {A : Type 0} {reader : Over A} {bs : List ℕ} (c : CutOff check reader bs) where
    pub cut_before : reader (length_first_text check) bs ≡ refused over_capacity
    cut_before =
        let is = u32_codec.back c.n c.field c.rest in
        c.reached (length_first_text check) kept_before over_capacity (field_before c.n (u32 c.n ++ c.rest) c.rest is c.long)

    pub cut_now : reader (read_text_by check) bs ≡ refused malformed
    cut_now =
        let is = u32_codec.back c.n c.field c.rest in
        c.reached (read_text_by check) (same (read_text_by check)) malformed (field_now c.n (u32 c.n ++ c.rest) c.rest is c.fewer)

  pub text_changed : (bs : List ℕ) → Bytes bs → Change check text_over bs
  text_changed = changes_text.change

  pub value_changed : (ed : Edition) (bs : List ℕ) → Bytes bs → Change check (value_over ed) bs
  value_changed ed = (changes_value ed).change

  pub operation_changed : (ed : Edition) (bs : List ℕ) → Bytes bs → Change check (operation_over ed) bs
  operation_changed ed = (changes_operation ed).change

  pub patch_changed : (ed : Edition) (bs : List ℕ) → Bytes bs → Change check (patch_over ed) bs
  patch_changed ed = (changes_patch ed).change

  -- over the reader of texts as it is now, they are the readers of `Read`
  pub value_now : (ed : Edition) → value_over ed (read_text_by check) ≡ read_value_by check ed
  unfolding read_value_by value_after
  value_now ed = refl

  pub operation_now : (ed : Edition) → operation_over ed (read_text_by check) ≡ read_operation_by check ed
  unfolding read_operation_by operation_after read_value_by value_after
  operation_now ed = refl

-- ---- sets

module _ (ed : Edition) where
  pub patch_now : patch_over ed read_text ≡ read_patch ed
  unfolding read_patch read_operation_by operation_after read_value_by value_after
  patch_now = refl

  patches_now : patches_over ed read_text ≡ read_patches ed
  unfolding read_patches read_patch read_operation_by operation_after read_value_by value_after
  patches_now = refl

  changes_patches : Changes true (patches_over ed)
  unfolding read_patch read_operation_by operation_after read_value_by value_after
  changes_patches =
      changes_mapped true (λ t. t.1)
      (changes_pair true (literal_codec (heading ed)) (changes_counted true set_patches (lit< tt) (patch_over ed) (patch_codec ed) (changes_patch true ed)))

  module _ (bs : List ℕ) (within : length bs ≤ set_bytes) (c : CutOff true (patches_over ed) bs) where
    pub cut_set_before : length_first_set ed bs ≡ fault over_capacity
    unfolding length_first_set ended
    cut_set_before = rw (le-leb (length bs) set_bytes within, cut_before true c)

    pub cut_set_now : read_set ed bs ≡ fault malformed
    unfolding read_set ended
    cut_set_now = rw (le-leb (length bs) set_bytes within, ← patches_now, cut_now true c)

  same_set : (bs : List ℕ) → patches_over ed (length_first_text true) bs ≡ read_patches ed bs → length_first_set ed bs ≡ read_set ed bs
  unfolding length_first_set read_set
  same_set bs e = rw e

  over_set : (bs : List ℕ) → leb (length bs) set_bytes ≡ false → length_first_set ed bs ≡ read_set ed bs
  unfolding length_first_set read_set
  over_set bs t = rw t

  pub set_changed : (bs : List ℕ) → Bytes bs → SetChange ed bs
  set_changed bs h = by_length (leb (length bs) set_bytes) refl
    where
      by_change : length bs ≤ set_bytes → Change true (patches_over ed) bs → SetChange ed bs
      by_change within (alike e) = as_before (same_set bs (e ∙ ap (λ p. p bs) patches_now))
      by_change within (cut_off c) = changed within c (cut_set_before bs within c) (cut_set_now bs within c)

      by_length : (t : Bool) → leb (length bs) set_bytes ≡ t → SetChange ed bs
      by_length true t = by_change (leb-true (length bs) set_bytes t) (changes_patches.change bs h)
      by_length false t = as_before (over_set bs t)

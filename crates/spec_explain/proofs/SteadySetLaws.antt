-- The locators of a set's fields are steady: what stops reading stands at its field, whatever follows.
use Prim.Native.Nat.{ℕ, zero, suc}
use Rattle.std.specs.Prelude.{◌≡◌, refl, Bool, true, false, List, [], ◌∷◌, ◌++◌, leb, eqb, length, if◌then◌else◌}
use Rattle.std.proofs.Common.{sym, ap, ◌∙◌, append_assoc, arith, leb-true, length-append}
use Rattle.spec_lists.specs.Lists.{All}
use Rattle.spec_lists.proofs.ListLaws.{test_cases}
use Rattle.spec_patch.specs.Sizes.{set_patches, patch_operations, highest_score}
use Rattle.spec_patch.specs.TextRule.{few_bytes, allowed, few_characters}
use Rattle.spec_patch.specs.Edition.{Edition, v1, v2}
use Rattle.spec_patch.specs.Encode.{heading}
use Rattle.spec_patch.specs.Reader.{Fault, malformed, Result, read, refused, bytes}
use Rattle.spec_patch.specs.Read.{read_u32, read_u64}
use Rattle.spec_patch.proofs.Codec.{bytes_long}
use Rattle.spec_explain.specs.ReadingRule.{ReadingRule, too_few_bytes, operation_tag, value_kind, optional_tag, availability_tag, quad_tag, score_range, wrong_heading, not_utf8, patch_count, operation_count_lem, text_length, character_count, outside}
use Rattle.spec_explain.specs.Locate.{Stop, Located, past, stop, Locator, stop_at, field, TagRow, by_row, tagged, repeated, counted, ends, locate_optional, locate_quad, locate_availability, locate_text, locate_score, score_row, locate_value, locate_operation, locate_envelope, locate_patch, locate_letters, locate_patches}
use Rattle.spec_explain.proofs.SteadyLaws.{short, fixed, PassedSteadily, StoppedReading, Steady, stop_is, past_is, not_both, steady_ends, steady_then, steady_within, wide_byte, wide_bytes, wide_number, FieldFollows, refuses, goes_on, steady_field}

-- ---- numbers

ends_there : {A : Type 0} (a : A) → FieldFollows (λ bs rest. past rest)
ends_there a = goes_on ends steady_ends (λ bs rest. refl)

pub steady_u64 : Steady (field read_u64)
steady_u64 = steady_field (wide_number 8) (malformed, refl) (λ bs a rest. past rest) (λ a. ends_there a)

pub steady_u32 : Steady (field read_u32)
steady_u32 = steady_field (wide_number 4) (malformed, refl) (λ bs a rest. past rest) (λ a. ends_there a)

-- ---- a test of what was read

module _ (rule : ReadingRule) {l : Locator} (one : Steady l) where
  follows_test : (t : Bool) → FieldFollows (λ bs rest. if t then l rest else stop_at rule bs)
  follows_test true = goes_on l one (λ bs rest. refl)
  follows_test false = refuses rule (λ bs rest. refl)

-- ---- tags

abbrev SteadyRow : TagRow → Type 0
SteadyRow row = Steady row.follows

follows_row : (rule : ReadingRule) (rows : List TagRow) → All SteadyRow rows → (t : ℕ) → FieldFollows (λ bs rest. by_row rule rows bs t rest)
unfolding by_row
follows_row rule [] h t = refuses rule (λ bs rest. refl)
follows_row rule (row ∷ rows) h t = go (eqb t row.tag) (follows_row rule rows h.1 t)
  where
    go : (b : Bool) → FieldFollows (λ bs rest. by_row rule rows bs t rest) → FieldFollows (λ bs rest. if b then row.follows rest else by_row rule rows bs t rest)
    go true others = goes_on row.follows h.0 (λ bs rest. refl)
    go false others = others

steady_tagged : (rule : ReadingRule) (rows : List TagRow) → All SteadyRow rows → Steady (tagged rule rows)
steady_tagged rule rows h = steady_field wide_byte (malformed, refl) (by_row rule rows) (follows_row rule rows h)

-- ---- so many times

module _ {l : ℕ → Locator} (each : (i : ℕ) → Steady (l i)) where
  steady_repeated : (n i : ℕ) → Steady (repeated l i n)
  unfolding repeated
  steady_repeated zero i = steady_ends
  steady_repeated (suc n) i = steady_then (each i) (steady_repeated n (suc i))

  steady_counted : (rule : ReadingRule) (capacity : ℕ) → Steady (counted rule capacity l)
  steady_counted rule capacity =
      steady_field (wide_number 4) (malformed, refl) (λ bs n rest. if leb n capacity then repeated l 0 n rest else stop_at rule bs)
      (λ n. follows_test rule (steady_repeated n 0) (leb n capacity))

-- ---- the fields of a set

pub steady_optional : Steady locate_optional
unfolding locate_optional
steady_optional = steady_tagged optional_tag _ (steady_ends, (steady_u64, tt))

steady_quad : Steady locate_quad
unfolding locate_quad
steady_quad = steady_tagged quad_tag _ (steady_ends, (steady_ends, (steady_ends, (steady_ends, tt))))

pub steady_availability : Steady locate_availability
unfolding locate_availability
steady_availability = steady_tagged availability_tag _ (steady_ends, (steady_ends, (steady_ends, (steady_ends, (steady_ends, tt)))))

steady_score : Steady locate_score
unfolding locate_score
steady_score =
    steady_field wide_byte (malformed, refl) (λ bs n rest. if leb n highest_score then past rest else stop_at score_range bs)
    (λ n. follows_test score_range steady_ends (leb n highest_score))

pub steady_letters : (xs : List ℕ) → Steady (locate_letters xs)
unfolding locate_letters
steady_letters [] = steady_ends
steady_letters (x ∷ xs) =
    steady_field wide_byte (malformed, refl) (λ bs b rest. if eqb b x then locate_letters xs rest else stop_at wrong_heading bs)
    (λ b. follows_test wrong_heading (steady_letters xs) (eqb b x))

pub steady_envelope : Steady locate_envelope
unfolding locate_envelope
steady_envelope = steady_then steady_u64 (steady_then steady_u64 (steady_then steady_u64 (steady_then steady_optional (steady_then steady_u64 (steady_then steady_u64 (steady_then steady_u64 steady_u64))))))

-- ---- a text

-- what is asked of the bytes t of a text, which begin the second list; the first begins with their length
abbrev tests : List ℕ → (bs text rest : List ℕ) → Located
tests t bs text rest = if few_bytes t then (if allowed true t then (if few_characters true t then past rest else stop_at character_count text) else stop_at not_utf8 text) else stop_at text_length bs

-- they pass, or reading stops at the text, which has bytes then, or at the length
data TextVerdict (t : List ℕ) : Type 0 where
  fine : ((bs text rest : List ℕ) → tests t bs text rest ≡ past rest) → TextVerdict t
  at_text : (rule : ReadingRule) → (t ≡ [] → ⊥) → ((bs text rest : List ℕ) → tests t bs text rest ≡ stop_at rule text) → TextVerdict t
  at_length : (rule : ReadingRule) → ((bs text rest : List ℕ) → tests t bs text rest ≡ stop_at rule bs) → TextVerdict t

text_verdict : (t : List ℕ) → TextVerdict t
text_verdict t = by_bytes (few_bytes t) refl
  where
    none_allowed : t ≡ [] → allowed true t ≡ true
    none_allowed e = rw e

    none_few : t ≡ [] → few_characters true t ≡ true
    none_few e = rw e

    apart : {C : Type 0} (b : Bool) → b ≡ true → b ≡ false → C
    apart b p q = absurd (let z : ◌≡◌ {A = ℕ} 0 1 = cc in omega arith)

    by_characters : few_bytes t ≡ true → allowed true t ≡ true → (b : Bool) → few_characters true t ≡ b → TextVerdict t
    by_characters p q true r = fine (λ bs text rest. rw (p, q, r))
    by_characters p q false r = at_text character_count (λ e. apart _ (none_few e) r) (λ bs text rest. rw (p, q, r))

    by_rule : few_bytes t ≡ true → (b : Bool) → allowed true t ≡ b → TextVerdict t
    by_rule p true q = by_characters p q (few_characters true t) refl
    by_rule p false q = at_text not_utf8 (λ e. apart _ (none_allowed e) q) (λ bs text rest. rw (p, q))

    by_bytes : (b : Bool) → few_bytes t ≡ b → TextVerdict t
    by_bytes true p = by_rule p (allowed true t) refl
    by_bytes false p = at_length text_length (λ bs text rest. rw p)

-- the length n in bs, and behind it the bytes of the text
module _ (n : ℕ) where
  text_there : (bs mid t rest : List ℕ) → read_u32 bs ≡ read n mid → bytes n mid ≡ read t rest → locate_text bs ≡ tests t bs mid rest
  unfolding locate_text
  text_there bs mid t rest is are = rw (is, are)

  text_lacking : (bs mid : List ℕ) (f : Fault) → read_u32 bs ≡ read n mid → bytes n mid ≡ refused f → locate_text bs ≡ stop_at too_few_bytes mid
  unfolding locate_text
  text_lacking bs mid f is are = rw (is, are)

length_lacking : (bs : List ℕ) (f : Fault) → read_u32 bs ≡ refused f → locate_text bs ≡ stop_at too_few_bytes bs
unfolding locate_text
length_lacking bs f is = rw is

-- a text that has bytes is not read from none
bytes_missing : (n : ℕ) (mid t rest : List ℕ) → bytes n mid ≡ read t rest → (t ≡ [] → ⊥) → (f : Fault) × (bytes n [] ≡ refused f)
bytes_missing n mid t rest e there = test_cases (leb n 0)
    (λ b. absurd (there (empty t (omega (arith, bytes_long n mid t rest e, leb-true n 0 b)))))
    (λ b. (malformed, rw b))
  where
    empty : (l : List ℕ) → length l ≡ 0 → l ≡ []
    empty [] h = refl
    empty (x ∷ l) h = absurd (omega arith)

-- how the reading of a text goes
data Way (bs : List ℕ) : Type 0 where
  no_length : (f : Fault) → read_u32 bs ≡ refused f → Way bs
  no_text : (n : ℕ) (mid : List ℕ) (f : Fault) → read_u32 bs ≡ read n mid → bytes n mid ≡ refused f → Way bs
  with_text : (n : ℕ) (mid t rest : List ℕ) → read_u32 bs ≡ read n mid → bytes n mid ≡ read t rest → TextVerdict t → Way bs

way : (bs : List ℕ) → Way bs
way bs = by_length (read_u32 bs) refl
  where
    by_text : (n : ℕ) (mid : List ℕ) → read_u32 bs ≡ read n mid → (r : Result (List ℕ)) → bytes n mid ≡ r → Way bs
    by_text n mid is (read t rest) are = with_text n mid t rest is are (text_verdict t)
    by_text n mid is (refused f) are = no_text n mid f is are

    by_length : (r : Result ℕ) → read_u32 bs ≡ r → Way bs
    by_length (read n mid) is = by_text n mid is (bytes n mid) refl
    by_length (refused f) is = no_length f is

-- a text that is there, whatever follows it
module _ (bs mid t rest : List ℕ) (n : ℕ) (is : read_u32 bs ≡ read n mid) (are : bytes n mid ≡ read t rest) where
  abbrev width : (taken : List ℕ) × (bs ≡ taken ++ mid) × ((other : List ℕ) → read_u32 (taken ++ other) ≡ read n other)
  width = (wide_number 4).reads bs n mid is

  abbrev body : (taken : List ℕ) × (mid ≡ taken ++ rest) × ((other : List ℕ) → bytes n (taken ++ other) ≡ read t other)
  body = (wide_bytes n).reads mid t rest are

  followed_by : (other : List ℕ) → locate_text (width.0 ++ (body.0 ++ other)) ≡ tests t (width.0 ++ (body.0 ++ other)) (body.0 ++ other) other
  followed_by other = text_there n _ (body.0 ++ other) t other (width.2 (body.0 ++ other)) (body.2 other)

  parted : (other : List ℕ) → bs ++ other ≡ width.0 ++ (body.0 ++ (rest ++ other))
  parted other =
      ap (λ (l : List ℕ). l ++ other) width.1 ∙ append_assoc width.0 mid other
      ∙ ap (λ (l : List ℕ). width.0 ++ (l ++ other)) body.1 ∙ ap (λ (l : List ℕ). width.0 ++ l) (append_assoc body.0 rest other)

  text_passes : ((bs text rest : List ℕ) → tests t bs text rest ≡ past rest) → PassedSteadily locate_text bs rest
  text_passes v = record {
    taken = width.0 ++ body.0;
    parts = width.1 ∙ ap (λ (l : List ℕ). width.0 ++ l) body.1 ∙ sym (append_assoc width.0 body.0 rest);
    again = λ other. ap locate_text (append_assoc width.0 body.0 other) ∙ followed_by other ∙ v (width.0 ++ (body.0 ++ other)) (body.0 ++ other) other;
  }

  at_length_lem : (rule : ReadingRule) → ((bs text rest : List ℕ) → tests t bs text rest ≡ stop_at rule bs) → StoppedReading locate_text bs (record { rule = rule; inside = outside; left = length bs })
  at_length_lem rule v = record {
    front = [];
    back = bs;
    parts = refl;
    behind = refl;
    ends = length_lacking [] malformed refl;
    decided = fixed (λ more.
        ap locate_text (parted more) ∙ followed_by (rest ++ more) ∙ v (width.0 ++ (body.0 ++ (rest ++ more))) (body.0 ++ (rest ++ more)) (rest ++ more)
        ∙ ap (stop_at rule) (sym (parted more))
        ∙ ap (λ (k : ℕ). stop (record { rule = rule; inside = outside; left = k })) (length-append bs more));
  }

  at_text_lem : (rule : ReadingRule) → (t ≡ [] → ⊥) → ((bs text rest : List ℕ) → tests t bs text rest ≡ stop_at rule text) → StoppedReading locate_text bs (record { rule = rule; inside = outside; left = length mid })
  at_text_lem rule there v =
      let lacks = bytes_missing n mid t rest are there in
      record {
        front = width.0 ++ [];
        back = mid;
        parts = width.1 ∙ sym (append_assoc width.0 [] mid);
        behind = refl;
        ends = text_lacking n (width.0 ++ []) [] lacks.0 (width.2 []) lacks.1;
        decided = fixed (λ more.
            ap locate_text (parted more) ∙ followed_by (rest ++ more) ∙ v (width.0 ++ (body.0 ++ (rest ++ more))) (body.0 ++ (rest ++ more)) (rest ++ more)
            ∙ ap (stop_at rule) (sym (append_assoc body.0 rest more) ∙ ap (λ (l : List ℕ). l ++ more) (sym body.1))
            ∙ ap (λ (k : ℕ). stop (record { rule = rule; inside = outside; left = k })) (length-append mid more));
      }

steady_text : Steady locate_text
steady_text = record { passes = λ bs rest e. by_passing bs rest (way bs) e; stops = λ bs s e. by_stopping bs s (way bs) e }
  where
    by_passing : (bs rest : List ℕ) → Way bs → locate_text bs ≡ past rest → PassedSteadily locate_text bs rest
    by_passing bs rest (no_length f is) e = not_both (sym e ∙ length_lacking bs f is)
    by_passing bs rest (no_text n mid f is are) e = not_both (sym e ∙ text_lacking n bs mid f is are)
    by_passing bs rest (with_text n mid t left is are (fine v)) e =
        rw (← past_is (sym (v bs mid left) ∙ sym (text_there n bs mid t left is are) ∙ e)) (text_passes bs mid t left n is are v)
    by_passing bs rest (with_text n mid t left is are (at_text rule there v)) e = not_both (sym e ∙ text_there n bs mid t left is are ∙ v bs mid left)
    by_passing bs rest (with_text n mid t left is are (at_length rule v)) e = not_both (sym e ∙ text_there n bs mid t left is are ∙ v bs mid left)

    stopped_by : (bs : List ℕ) (s u : Stop) → locate_text bs ≡ stop s → locate_text bs ≡ stop u → StoppedReading locate_text bs u → StoppedReading locate_text bs s
    stopped_by bs s u e q h = rw (stop_is (sym e ∙ q)) h

    by_stopping : (bs : List ℕ) (s : Stop) → Way bs → locate_text bs ≡ stop s → StoppedReading locate_text bs s
    by_stopping bs s (no_length f is) e =
        stopped_by bs s _ e (length_lacking bs f is)
        (record { front = []; back = bs; parts = refl; behind = refl; ends = length_lacking [] malformed refl; decided = short refl })
    by_stopping bs s (no_text n mid f is are) e =
        let w = (wide_number 4).reads bs n mid is in
        let lacks = (wide_bytes n).lacking mid f are in
        stopped_by bs s _ e (text_lacking n bs mid f is are)
        (record {
          front = w.0 ++ [];
          back = mid;
          parts = w.1 ∙ sym (append_assoc w.0 [] mid);
          behind = refl;
          ends = text_lacking n (w.0 ++ []) [] lacks.0 (w.2 []) lacks.1;
          decided = short refl;
        })
    by_stopping bs s (with_text n mid t left is are (fine v)) e = not_both (sym (v bs mid left) ∙ sym (text_there n bs mid t left is are) ∙ e)
    by_stopping bs s (with_text n mid t left is are (at_text rule there v)) e =
        stopped_by bs s _ e (text_there n bs mid t left is are ∙ v bs mid left) (at_text_lem bs mid t left n is are rule there v)
    by_stopping bs s (with_text n mid t left is are (at_length rule v)) e =
        stopped_by bs s _ e (text_there n bs mid t left is are ∙ v bs mid left) (at_length_lem bs mid t left n is are rule v)

-- ---- values, operations, patches

steady_score_row : (ed : Edition) → All SteadyRow (score_row ed)
unfolding score_row
steady_score_row v1 = tt
steady_score_row v2 = (steady_score, tt)

module _ (ed : Edition) where
  pub steady_value : Steady (locate_value ed)
  unfolding locate_value
  steady_value = steady_tagged value_kind _ (steady_quad, (steady_u64, (steady_text, (steady_u64, steady_score_row ed))))

  pub steady_operation : Steady (locate_operation ed)
  unfolding locate_operation
  steady_operation = steady_tagged operation_tag _ (
    steady_then steady_u64 (steady_then steady_u32 steady_value),
    (
      steady_then steady_u64 steady_availability,
      (
        steady_then steady_u64 (steady_then steady_u64 (steady_then steady_optional steady_value)),
        (
          steady_then steady_u64 (steady_then steady_u64 steady_value),
          (steady_then steady_u64 steady_u64, (steady_then steady_u64 (steady_then steady_u64 steady_optional), tt)),
        ),
      ),
    ),
  )

  pub steady_patch : (i : ℕ) → Steady (locate_patch ed i)
  unfolding locate_patch
  steady_patch i = steady_within _ (steady_then steady_envelope (steady_counted (λ j. steady_within _ steady_operation) operation_count_lem patch_operations))

  pub steady_patches : Steady (locate_patches ed)
  unfolding locate_patches
  steady_patches = steady_then (steady_letters (heading ed)) (steady_counted steady_patch patch_count set_patches)

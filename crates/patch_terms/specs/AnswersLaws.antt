-- What is answered of a line by where its tabs stand, what its key spells and how its text is judged.
use Rattle.std.specs.Prelude.{ℕ, suc, ◌-◌, ◌≤◌, ◌<◌, ◌≡◌, Bool, ◌&&◌, ◌≢◌, eqb, Result, Ok, Err, if◌then◌else◌}
use Rattle.std.proofs.Math.Path.{refl, sym, ap}
use Rattle.std.proofs.Common.{◌∙◌, arith}
use Rattle.std.proofs.Math.Bool.{true, false}
use mathlib.Core.List.{List, ◌∷◌}
use Rattle.std.proofs.Math.Option.{Option, none, some}
use borrow.Author.Tests.{eqb-true, eqb-false, le-leb, lt-leb}
use Rattle.std.proofs.Math.ListN.{length, take, drop, length-drop}
use Rattle.spec_lists.proofs.ListLaws.{test_cases}
use Rattle.spec_decimal.specs.Decimal.{read_decimal}
use Rattle.spec_listing.specs.Escapes.{tab}
use Rattle.spec_listing.specs.Split.{split}
use Rattle.spec_listing.proofs.SplitLaws.{split_whole, split_part}
use Rattle.spec_patch.specs.Sizes.{text_bytes}
use Rattle.spec_patch.specs.TextRule.{allowed, few_characters}
use Rattle.projection_patch.specs.TextRule.{judged, judgement}
use Rattle.projection_patch.specs.declared.text_rule.TextFault.TheVariants.{Malformed, ManyCharacters}
use Rattle.spec_import.specs.Import.{Term, term_with, term_of_fields, read_term, keeps_text}
use Rattle.spec_import.proofs.FormLaws.{some_part}
use Rattle.patch_terms.specs.declared.TermRefusal.{TermRefusal}
use Rattle.patch_terms.specs.declared.TermRefusal.TheVariants.{OtherForm, OverCapacity}
use Rattle.patch_terms.specs.Places.{byte_place_of}
use Rattle.patch_terms.specs.PlacesLaws.{byte_place_of_within, place_lacks, place_found, place_none}
use Rattle.patch_terms.specs.Answers.{term_ok, judged_term, term_to, term_answer}

-- ---- the text

module _ (k start : ℕ) (t : List ℕ) where
  pub term_malformed : judgement t ≡ Err Malformed → Err OtherForm ≡ judged_term k start t
  term_malformed e = go (allowed true t) refl (few_characters true t) e
    where
      go : (a : Bool) → allowed true t ≡ a → (f : Bool) → judged a f ≡ Err Malformed → Err OtherForm ≡ judged_term k start t
      go true h true e = absurd (let z : ◌≡◌ {A = ℕ} 0 1 = cc in omega arith)
      go true h false e = absurd (let z : ◌≡◌ {A = ℕ} 0 1 = cc in omega arith)
      go false h f e = sym (rw h)

  pub term_many : judgement t ≡ Err ManyCharacters → Err OverCapacity ≡ judged_term k start t
  unfolding keeps_text
  term_many e = go (allowed true t) refl (few_characters true t) refl e
    where
      not_both : (a : Bool) → (a && false) ≡ false
      not_both true = refl
      not_both false = refl

      go : (a : Bool) → allowed true t ≡ a → (f : Bool) → few_characters true t ≡ f → judged a f ≡ Err ManyCharacters → Err OverCapacity ≡ judged_term k start t
      go true h true g e = absurd (let z : ◌≡◌ {A = ℕ} 0 1 = cc in omega arith)
      go true h false g e = sym (rw (h, g, not_both))
      go false h f g e = absurd (let z : ◌≡◌ {A = ℕ} 0 1 = cc in omega arith)

  module _ (e : judgement t ≡ Ok tt) where
    allowed_few : (allowed true t ≡ true) × (few_characters true t ≡ true)
    allowed_few = go (allowed true t) (few_characters true t) e
      where
        go : (a f : Bool) → judged a f ≡ Ok tt → (a ≡ true) × (f ≡ true)
        go true true e = (refl, refl)
        go true false e = absurd (let z : ◌≡◌ {A = ℕ} 0 1 = cc in omega arith)
        go false f e = absurd (let z : ◌≡◌ {A = ℕ} 0 1 = cc in omega arith)

    pub term_long : text_bytes < length t → Err OverCapacity ≡ judged_term k start t
    unfolding keeps_text
    term_long h = sym (rw (allowed_few.0, lt-leb (length t) text_bytes h))

    pub term_kept : length t ≤ text_bytes → term_ok k start ≡ judged_term k start t
    unfolding keeps_text
    term_kept h = sym (rw (allowed_few.0, le-leb (length t) text_bytes h, allowed_few.1))

-- ---- the line

module _ (line : List ℕ) where
  abbrev at_tab : ℕ
  at_tab = byte_place_of tab line

  -- no tab
  pub line_whole : at_tab ≡ length line → Err OtherForm ≡ term_answer line
  unfolding read_term term_of_fields
  line_whole h = sym (ap (λ (fs : List (List ℕ)). term_to (length line) (term_of_fields fs)) (split_whole tab line (place_none tab line h)))

  module _ (found : at_tab < length line) where
    abbrev key : List ℕ
    key = take at_tab line

    abbrev behind : List ℕ
    behind = drop (suc at_tab) line

    parted : split tab line ≡ key ∷ split tab behind
    parted = ap (split tab) (place_found tab line found) ∙ split_part tab key behind (place_lacks tab line)

    -- a second tab
    pub line_second_tab : byte_place_of tab behind < length behind → Err OtherForm ≡ term_answer line
    unfolding read_term term_of_fields
    line_second_tab h =
        let first = take (byte_place_of tab behind) behind in
        let rest = drop (suc (byte_place_of tab behind)) behind in
        let w = some_part tab rest in
        let three : split tab line ≡ key ∷ first ∷ w.0 ∷ w.1 = parted ∙ ap (λ (fs : List (List ℕ)). key ∷ fs) (ap (split tab) (place_found tab behind h) ∙ split_part tab first rest (place_lacks tab behind) ∙ ap (λ (fs : List (List ℕ)). first ∷ fs) w.2) in
        sym (ap (λ (fs : List (List ℕ)). term_to (length line) (term_of_fields fs)) three)

    module _ (only : byte_place_of tab behind ≡ length behind) where
      two : term_answer line ≡ term_to (length line) (term_with (read_decimal key) behind)
      unfolding read_term term_of_fields
      two = ap (λ (fs : List (List ℕ)). term_to (length line) (term_of_fields fs)) (parted ∙ ap (λ (fs : List (List ℕ)). key ∷ fs) (split_whole tab behind (place_none tab behind only)))

      -- no key
      pub line_unspelled : read_decimal key ≡ none → Err OtherForm ≡ term_answer line
      unfolding term_with
      line_unspelled h = sym (two ∙ rw h)

      -- a key and a text
      pub line_judged : (k : ℕ) → read_decimal key ≡ some k → (start : ℕ) → start ≡ suc at_tab → judged_term k start behind ≡ term_answer line
      unfolding term_with
      line_judged k h start s =
          let where-it-starts : start ≡ length line - length behind = omega (arith, s, length-drop (suc at_tab) line) in
          ap (λ (n : ℕ). judged_term k n behind) where-it-starts ∙ go (allowed true behind) refl ∙ sym two
        where
          go : (a : Bool) → allowed true behind ≡ a → judged_term k (length line - length behind) behind ≡ term_to (length line) (term_with (read_decimal key) behind)
          go true e = rw (h, e)
          go false e = rw (h, e)

-- answers that are equal hold the same
pairs_same : {p q : ℕ × ℕ} → ◌≡◌ {A = Result (ℕ × ℕ) TermRefusal} (Ok p) (Ok q) → p ≡ q
pairs_same e = cc

keys_same : {m n k l : ℕ} → term_ok m k ≡ term_ok n l → m ≡ n
keys_same e = ap (λ (p : ℕ × ℕ). p.0) (pairs_same e)

starts_same : {m n k l : ℕ} → term_ok m k ≡ term_ok n l → k ≡ l
starts_same e = ap (λ (p : ℕ × ℕ). p.1) (pairs_same e)

-- a text starts within its line
pub starts_within : (n : ℕ) (o : Option Term) (k start : ℕ) → term_to n o ≡ term_ok k start → start ≤ n
starts_within n none k start e = absurd (let z : ◌≡◌ {A = ℕ} 0 1 = cc in omega arith)
starts_within n (some t) k start e = go (keeps_text t) e
  where
    go : (b : Bool) → (if b then term_ok t.key (n - length t.words) else Err OverCapacity) ≡ term_ok k start → start ≤ n
    go true e = let same : n - length t.words ≡ start = starts_same e in omega arith
    go false e = absurd (let z : ◌≡◌ {A = ℕ} 0 1 = cc in omega arith)

-- ---- a line that is known to hold a term

module _ (line : List ℕ) (k start : ℕ) (is : term_answer line ≡ term_ok k start) where
  other_never : {C : Type 0} → Err OtherForm ≡ term_answer line → C
  other_never e = absurd (let same : Err OtherForm ≡ term_ok k start = e ∙ is in let z : ◌≡◌ {A = ℕ} 0 1 = cc in omega arith)

  -- it has a tab
  pub known_tab : byte_place_of tab line < length line
  known_tab =
      test_cases (eqb (byte_place_of tab line) (length line))
      (λ e. other_never (line_whole line (eqb-true (byte_place_of tab line) (length line) e)))
      (λ e. let apart = eqb-false (byte_place_of tab line) (length line) e in let within = byte_place_of_within tab line in less apart within)
    where
      less : {m n : ℕ} → m ≢ n → m ≤ n → m < n
      less apart within = omega arith

  known_only : let behind = drop (suc (byte_place_of tab line)) line in byte_place_of tab behind ≡ length behind
  known_only =
      let behind = drop (suc (byte_place_of tab line)) line in
      test_cases (eqb (byte_place_of tab behind) (length behind))
      (λ e. eqb-true (byte_place_of tab behind) (length behind) e)
      (λ e. other_never (line_second_tab line known_tab (less (eqb-false (byte_place_of tab behind) (length behind) e) (byte_place_of_within tab behind))))
    where
      less : {m n : ℕ} → m ≢ n → m ≤ n → m < n
      less apart within = omega arith

  -- its key stands before the tab, and its text behind it
  pub known_key : (read_decimal (take (byte_place_of tab line) line) ≡ some k) × (start ≡ suc (byte_place_of tab line))
  known_key = by_key (read_decimal (take (byte_place_of tab line) line)) refl
    where
      behind : List ℕ
      behind = drop (suc (byte_place_of tab line)) line

      by_text : (n : ℕ) → read_decimal (take (byte_place_of tab line) line) ≡ some n → (a b : Bool) → allowed true behind ≡ a → keeps_text (record { key = n; words = behind }) ≡ b → judged_term n (suc (byte_place_of tab line)) behind ≡ term_ok k start
          → (read_decimal (take (byte_place_of tab line) line) ≡ some k) × (start ≡ suc (byte_place_of tab line))
      by_text n h true true a b e =
          let same : term_ok n (suc (byte_place_of tab line)) ≡ term_ok k start = rw (a, b) at e in
          let keys : n ≡ k = keys_same same in
          let starts : suc (byte_place_of tab line) ≡ start = starts_same same in
          (h ∙ ap some keys, sym starts)
      by_text n h true false a b e = absurd (let z : ◌≡◌ {A = ℕ} 0 1 = cc (rw (a, b) at e) in omega arith)
      by_text n h false b a c e = absurd (let z : ◌≡◌ {A = ℕ} 0 1 = cc (rw a at e) in omega arith)

      by_key : (o : Option ℕ) → read_decimal (take (byte_place_of tab line) line) ≡ o → (read_decimal (take (byte_place_of tab line) line) ≡ some k) × (start ≡ suc (byte_place_of tab line))
      by_key none h = other_never (line_unspelled line known_tab known_only h)
      by_key (some n) h = by_text n h (allowed true behind) (keeps_text (record { key = n; words = behind })) refl refl (line_judged line known_tab known_only n h (suc (byte_place_of tab line)) refl ∙ is)

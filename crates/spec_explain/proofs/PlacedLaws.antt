-- The patch and the operation that a stop names are the first that are not read.
use Rattle.std.specs.Prelude.{ℕ, zero, suc, ◌+◌, ◌<◌, ◌≡◌, Bool, true, false, List, [], ◌∷◌, leb, eqb, length, if◌then◌else◌}
use Rattle.std.proofs.Math.Path.{refl, ap, subst}
use Rattle.std.proofs.Common.{sym, ◌∙◌, arith}
use Rattle.std.proofs.Math.Option.{some}
use Rattle.spec_lists.specs.Lists.{All}
use Rattle.spec_lists.proofs.ListLaws.{test_cases}
use Rattle.spec_patch.specs.Sizes.{set_bytes, set_patches, patch_operations, highest_score}
use Rattle.spec_patch.specs.TextRule.{few_bytes, allowed, few_characters}
use Rattle.spec_patch.specs.Edition.{Edition, v1, v2}
use Rattle.spec_patch.specs.Encode.{heading}
use Rattle.spec_patch.specs.Reader.{Fault, Result, read, refused, Reader, pair, byte, bytes}
use Rattle.spec_patch.specs.Read.{read_u32, read_u64, read_count}
use Rattle.spec_explain.specs.ReadingRule.{ReadingRule, not_utf8, patch_count, operation_count_lem, text_length, character_count, Inside, outside, in_patch, in_operation, Unread}
use Rattle.spec_explain.specs.Locate.{Stop, Located, past, stop, Locator, stop_at, go_on, ◌⨟◌, behind, field_then, field, TagRow, by_row, tagged, repeated, counted, placed, placed_stop, ends, locate_optional, locate_quad, locate_availability, locate_text, locate_score, score_row, locate_value, locate_operation, locate_envelope, locate_patch, locate_letters, locate_patches, at_end, stop_of, from_start, locate}
use Rattle.spec_explain.proofs.LocateLaws.{fate, fate_of, Tells, tells_within, tells_many, tells_letters, tells_envelope, tells_operation, tells_patch}
use Rattle.spec_explain.proofs.SteadyLaws.{stop_is, not_both}
use Rattle.spec_explain.specs.Placed.{FirstUnread, PatchAt, PlacedAt}

-- ---- stops without a place

record Unplaced (l : Locator) : Type 0 where
  none_named : (bs : List ℕ) (s : Stop) → l bs ≡ stop s → s.inside ≡ outside

at_field : (rule : ReadingRule) (bs : List ℕ) (s : Stop) → stop_at rule bs ≡ stop s → s.inside ≡ outside
at_field rule bs s e = sym (ap (λ (u : Stop). u.inside) (stop_is e))

unplaced_ends : Unplaced ends
unplaced_ends = record { none_named = λ bs s e. not_both e }

module _ {l m : Locator} (first : Unplaced l) (second : Unplaced m) where
  unplaced_then : Unplaced (l ⨟ m)
  unplaced_then = record { none_named = λ bs s e. go bs (l bs) refl s e }
    where
      go : (bs : List ℕ) (x : Located) → l bs ≡ x → (s : Stop) → go_on x m ≡ stop s → s.inside ≡ outside
      go bs (past rest) is s e = second.none_named rest s e
      go bs (stop r) is s e = first.none_named bs s (is ∙ e)

module _ {A : Type 0} (p : Reader A) (next : List ℕ → A → Locator) (each : (bs : List ℕ) (a : A) (rest : List ℕ) (s : Stop) → next bs a rest ≡ stop s → s.inside ≡ outside) where
  unplaced_field : Unplaced (λ bs. field_then p (next bs) bs)
  unplaced_field = record { none_named = λ bs s e. go bs (p bs) s e }
    where
      go : (bs : List ℕ) (r : Result A) (s : Stop) → behind bs r (next bs) ≡ stop s → s.inside ≡ outside
      go bs (read a rest) s e = each bs a rest s e
      go bs (refused f) s e = at_field _ bs s e

unplaced_number : {A : Type 0} (p : Reader A) → Unplaced (field p)
unplaced_number p = unplaced_field p (λ bs a rest. past rest) (λ bs a rest s e. not_both e)

-- a test of what was read
unplaced_test : (rule : ReadingRule) {l : Locator} → Unplaced l → (t : Bool) (bs rest : List ℕ) (s : Stop) → (if t then l rest else stop_at rule bs) ≡ stop s → s.inside ≡ outside
unplaced_test rule one true bs rest s e = one.none_named rest s e
unplaced_test rule one false bs rest s e = at_field rule bs s e

abbrev UnplacedRow : TagRow → Type 0
UnplacedRow row = Unplaced row.follows

unplaced_row : (rule : ReadingRule) (rows : List TagRow) → All UnplacedRow rows → (bs : List ℕ) (t : ℕ) (rest : List ℕ) (s : Stop) → by_row rule rows bs t rest ≡ stop s → s.inside ≡ outside
unfolding by_row
unplaced_row rule [] h bs t rest s e = at_field rule bs s e
unplaced_row rule (row ∷ rows) h bs t rest s e = go (eqb t row.tag) (unplaced_row rule rows h.1 bs t rest s) e
  where
    go : (b : Bool) → (by_row rule rows bs t rest ≡ stop s → s.inside ≡ outside) → (if b then row.follows rest else by_row rule rows bs t rest) ≡ stop s → s.inside ≡ outside
    go true others e = h.0.none_named rest s e
    go false others e = others e

unplaced_tagged : (rule : ReadingRule) (rows : List TagRow) → All UnplacedRow rows → Unplaced (tagged rule rows)
unplaced_tagged rule rows h = unplaced_field byte (by_row rule rows) (unplaced_row rule rows h)

-- ---- the fields

unplaced_optional : Unplaced locate_optional
unfolding locate_optional
unplaced_optional = unplaced_tagged _ _ (unplaced_ends, (unplaced_number read_u64, tt))

unplaced_quad : Unplaced locate_quad
unfolding locate_quad
unplaced_quad = unplaced_tagged _ _ (unplaced_ends, (unplaced_ends, (unplaced_ends, (unplaced_ends, tt))))

unplaced_availability : Unplaced locate_availability
unfolding locate_availability
unplaced_availability = unplaced_tagged _ _ (unplaced_ends, (unplaced_ends, (unplaced_ends, (unplaced_ends, (unplaced_ends, tt)))))

unplaced_score : Unplaced locate_score
unfolding locate_score
unplaced_score = unplaced_field byte (λ bs n rest. if leb n highest_score then past rest else stop_at _ bs) (λ bs n rest s e. unplaced_test _ unplaced_ends (leb n highest_score) bs rest s e)

unplaced_text : Unplaced locate_text
unfolding locate_text
unplaced_text =
    unplaced_field read_u32 (λ bs n text. field_then (bytes n) (asked bs text) text)
    (λ bs n text s e. (unplaced_field (bytes n) (λ mid. asked bs mid) (λ mid t rest u q. tests bs mid rest (few_bytes t) (allowed true t) (few_characters true t) u q)).none_named text s e)
  where
    asked : List ℕ → List ℕ → List ℕ → Locator
    asked bs text t rest = if few_bytes t then (if allowed true t then (if few_characters true t then past rest else stop_at character_count text) else stop_at not_utf8 text) else stop_at text_length bs

    tests : (bs text rest : List ℕ) (a b c : Bool) (s : Stop) → (if a then (if b then (if c then past rest else stop_at character_count text) else stop_at not_utf8 text) else stop_at text_length bs) ≡ stop s → s.inside ≡ outside
    tests bs text rest true true true s e = not_both e
    tests bs text rest true true false s e = at_field _ text s e
    tests bs text rest true false c s e = at_field _ text s e
    tests bs text rest false b c s e = at_field _ bs s e

unplaced_letters : (xs : List ℕ) → Unplaced (locate_letters xs)
unfolding locate_letters
unplaced_letters [] = unplaced_ends
unplaced_letters (x ∷ xs) =
    unplaced_field byte (λ bs b rest. if eqb b x then locate_letters xs rest else stop_at _ bs) (λ bs b rest s e. unplaced_test _ (unplaced_letters xs) (eqb b x) bs rest s e)

unplaced_envelope : Unplaced locate_envelope
unfolding locate_envelope
unplaced_envelope =
    let u = unplaced_number read_u64 in
    unplaced_then u (unplaced_then u (unplaced_then u (unplaced_then unplaced_optional (unplaced_then u (unplaced_then u (unplaced_then u u))))))

unplaced_score_row : (ed : Edition) → All UnplacedRow (score_row ed)
unfolding score_row
unplaced_score_row v1 = tt
unplaced_score_row v2 = (unplaced_score, tt)

module _ (ed : Edition) where
  unplaced_value : Unplaced (locate_value ed)
  unfolding locate_value
  unplaced_value = unplaced_tagged _ _ (unplaced_quad, (unplaced_number read_u64, (unplaced_text, (unplaced_number read_u64, unplaced_score_row ed))))

  unplaced_operation : Unplaced (locate_operation ed)
  unfolding locate_operation
  unplaced_operation =
      let u = unplaced_number read_u64 in
      unplaced_tagged _ _ (
        unplaced_then u (unplaced_then (unplaced_number read_u32) unplaced_value),
        (
          unplaced_then u unplaced_availability,
          (
            unplaced_then u (unplaced_then u (unplaced_then unplaced_optional unplaced_value)),
            (unplaced_then u (unplaced_then u unplaced_value), (unplaced_then u u, (unplaced_then u (unplaced_then u unplaced_optional), tt))),
          ),
        ),
      )

-- ---- the first of those behind a count

-- the stop of a repetition is in one of them, and those before it are passed
repeated_stop : (l : ℕ → Locator) (n i : ℕ) (bs : List ℕ) (s : Stop) → repeated l i n bs ≡ stop s → (k : ℕ) × (rest : List ℕ) × (k < n) × (repeated l i k bs ≡ past rest) × (l (i + k) rest ≡ stop s)
unfolding repeated
repeated_stop l zero i bs s e = not_both e
repeated_stop l (suc n) i bs s e = go (l i bs) refl (λ mid. repeated_stop l n (suc i) mid s) e
  where
    go : (x : Located) → l i bs ≡ x → ((mid : List ℕ) → repeated l (suc i) n mid ≡ stop s → (k : ℕ) × (rest : List ℕ) × (k < n) × (repeated l (suc i) k mid ≡ past rest) × (l (suc i + k) rest ≡ stop s))
        → go_on x (repeated l (suc i) n) ≡ stop s → (k : ℕ) × (rest : List ℕ) × (k < suc n) × (repeated l i k bs ≡ past rest) × (l (i + k) rest ≡ stop s)
    go (stop r) is later e = let here : i + 0 ≡ i = omega arith in (0, bs, omega arith, refl, ap (λ (j : ℕ). l j bs) here ∙ is ∙ e)
    go (past mid) is later e =
        let w = later mid e in
        let place : i + suc w.0 ≡ suc i + w.0 = omega arith in
        (suc w.0, w.1, omega (arith, w.2), ap (λ (x : Located). go_on x (repeated l (suc i) w.0)) is ∙ w.3, ap (λ (j : ℕ). l j w.1) place ∙ w.4)

-- ---- what a stop says of the reader

module _ {A : Type 0} {l : Locator} {p : Reader A} (both : Tells l p) (bs : List ℕ) where
  reads_of : (rest : List ℕ) → l bs ≡ past rest → (a : A) × (p bs ≡ read a rest)
  reads_of rest e = go (p bs) refl (sym (both.tells bs) ∙ ap fate e)
    where
      go : (r : Result A) → p bs ≡ r → fate_of r ≡ fate (past rest) → (a : A) × (p bs ≡ read a rest)
      go (read a mid) is q = let same : mid ≡ rest = cc in (a, is ∙ ap (read a) same)
      go (refused f) is q = absurd (let z : ◌≡◌ {A = ℕ} 0 1 = cc in omega arith)

  refuses_of : (s : Stop) → l bs ≡ stop s → (f : Fault) × (p bs ≡ refused f)
  refuses_of s e = go (p bs) refl (sym (both.tells bs) ∙ ap fate e)
    where
      go : (r : Result A) → p bs ≡ r → fate_of r ≡ fate (stop s) → (f : Fault) × (p bs ≡ refused f)
      go (read a mid) is q = absurd (let z : ◌≡◌ {A = ℕ} 0 1 = cc in omega arith)
      go (refused f) is q = (f, is)

-- ---- a head, a count, and so many

module _ {A B : Type 0} {h : Locator} {head : Reader A} (unplaced : Unplaced h) (both : Tells h head) (rule : ReadingRule) (capacity : ℕ) {l : ℕ → Locator} {one : Reader B} (each : (i : ℕ) → Tells (l i) one) where
  data Where (bs : List ℕ) (s : Stop) : Type 0 where
    before : s.inside ≡ outside → Where bs s
    among : (k : ℕ) (f : FirstUnread (pair head (read_count capacity)) one bs k) → l k f.rest ≡ stop s → Where bs s

  stop_where : (bs : List ℕ) (s : Stop) → (h ⨟ counted rule capacity l) bs ≡ stop s → Where bs s
  stop_where bs s e = by_head (h bs) refl e
    where
      by_times : (a : A) (mid : List ℕ) (n : ℕ) (rest : List ℕ) → head bs ≡ read a mid → read_u32 mid ≡ read n rest → leb n capacity ≡ true → repeated l 0 n rest ≡ stop s → Where bs s
      by_times a mid n rest ha hn few e =
          let w = repeated_stop l n 0 rest s e in
          let k = w.0 in
          let index : 0 + k ≡ k = omega arith in
          let here : l k w.1 ≡ stop s = sym (ap (λ (j : ℕ). l j w.1) index) ∙ w.4 in
          let r = reads_of (tells_many each k 0) rest w.1 w.3 in
          let x = refuses_of (each k) w.1 s here in
          among k (record { first = a; count = n; behind = rest; headed = rw (ha, hn, few); announced = w.2; earlier = r.0; rest = w.1; before = r.1; fault = x.0; fails = x.1 }) here

      by_test : (a : A) (mid : List ℕ) (n : ℕ) (rest : List ℕ) → head bs ≡ read a mid → read_u32 mid ≡ read n rest → (t : Bool) → leb n capacity ≡ t → (if t then repeated l 0 n rest else stop_at rule mid) ≡ stop s → Where bs s
      by_test a mid n rest ha hn true t e = by_times a mid n rest ha hn t e
      by_test a mid n rest ha hn false t e = before (at_field rule mid s e)

      by_count : (a : A) (mid : List ℕ) → head bs ≡ read a mid → (r : Result ℕ) → read_u32 mid ≡ r → behind mid r (λ n rest. if leb n capacity then repeated l 0 n rest else stop_at rule mid) ≡ stop s → Where bs s
      by_count a mid ha (read n rest) hn e = by_test a mid n rest ha hn (leb n capacity) refl e
      by_count a mid ha (refused f) hn e = before (at_field _ mid s e)

      by_head : (x : Located) → h bs ≡ x → go_on x (counted rule capacity l) ≡ stop s → Where bs s
      by_head (stop r) is e = before (unplaced.none_named bs s (is ∙ e))
      by_head (past mid) is e = let w = reads_of both bs mid is in by_count w.0 mid w.1 (read_u32 mid) refl e

-- ---- the set

-- a stop that is given a place
placed_stop_lem : (here : Inside) (x : Located) (s : Stop) → placed_stop here x ≡ stop s → (t : Stop) × (x ≡ stop t) × (s.inside ≡ placed here t.inside)
placed_stop_lem here (past rest) s e = not_both e
placed_stop_lem here (stop t) s e = (t, refl, sym (ap (λ (u : Stop). u.inside) (stop_is e)))

module _ (ed : Edition) where
  in_patch_lem : (set : List ℕ) (i : ℕ) (f : PatchAt ed set i) (s : Stop) → locate_patch ed i f.rest ≡ stop s → PlacedAt ed set s.inside
  unfolding locate_patch
  in_patch_lem set i f s e =
      let w = placed_stop_lem (in_patch i) _ s e in
      by_where w.0 w.2 (stop_where unplaced_envelope tells_envelope operation_count_lem patch_operations (λ j. tells_within (in_operation i j) (tells_operation ed)) f.rest w.0 w.1)
    where
      by_where : (t : Stop) → s.inside ≡ placed (in_patch i) t.inside → Where unplaced_envelope tells_envelope operation_count_lem patch_operations (λ j. tells_within (in_operation i j) (tells_operation ed)) f.rest t → PlacedAt ed set s.inside
      by_where t p (before q) = subst (PlacedAt ed set) (sym (p ∙ ap (placed (in_patch i)) q)) f
      by_where t p (among j g q) =
          let v = placed_stop_lem (in_operation i j) _ t q in
          let named = (unplaced_operation ed).none_named g.rest v.0 v.1 in
          subst (PlacedAt ed set) (sym (p ∙ ap (placed (in_patch i)) (v.2 ∙ ap (placed (in_operation i j)) named))) (f, g)

  stop_placed : (set : List ℕ) (s : Stop) → locate_patches ed set ≡ stop s → PlacedAt ed set s.inside
  unfolding locate_patches
  stop_placed set s e = by_where (stop_where (unplaced_letters (heading ed)) (tells_letters (heading ed)) patch_count set_patches (tells_patch ed) set s e)
    where
      by_where : Where (unplaced_letters (heading ed)) (tells_letters (heading ed)) patch_count set_patches (tells_patch ed) set s → PlacedAt ed set s.inside
      by_where (before q) = subst (PlacedAt ed set) (sym q) tt
      by_where (among i f q) = in_patch_lem set i f s q

  -- the patch and the operation that are named are the first that are not read
  pub named_place : (set : List ℕ) (u : Unread) → locate ed set ≡ some u → PlacedAt ed set u.inside
  unfolding locate stop_of at_end
  named_place set u e = test_cases (leb (length set) set_bytes)
      (λ t. by_way (locate_patches ed set) refl (rw t at e))
      (λ t. outside_of _ (rw t at e) refl)
    where
      outside_of : (s : Stop) → from_start set (some s) ≡ some u → s.inside ≡ outside → PlacedAt ed set u.inside
      outside_of s q o = subst (PlacedAt ed set) (sym o ∙ inside_is s q) tt
        where
          inside_is : (s : Stop) → from_start set (some s) ≡ some u → s.inside ≡ u.inside
          inside_is s q = cc

      by_way : (x : Located) → locate_patches ed set ≡ x → from_start set (at_end x) ≡ some u → PlacedAt ed set u.inside
      by_way (past []) is q = absurd (let z : ◌≡◌ {A = ℕ} 0 1 = cc in omega arith)
      by_way (past (b ∷ rest)) is q = outside_of _ q refl
      by_way (stop s) is q = let same : s.inside ≡ u.inside = cc in subst (PlacedAt ed set) same (stop_placed set s is)

-- The way through the fields of a set ends exactly where the set is not read, and by a rule of the same number. One law for each way of putting
-- readers together.
use Prim.Native.Nat.{ℕ, zero, suc}
use Rattle.std.proofs.Math.Path.{◌≡◌, refl, ap}
use Rattle.std.proofs.Common.{sym, ◌∙◌, arith}
use Rattle.std.specs.Prelude.{Bool, ◌||◌, leb, eqb, length, take, drop, if◌then◌else◌}
use Rattle.std.proofs.Math.Bool.{true, false}
use mathlib.Core.List.{List, [], ◌∷◌}
use Rattle.std.proofs.Math.Option.{Option, none, some}
use Rattle.spec_lists.specs.Lists.{any}
use Rattle.spec_patch.specs.Sizes.{set_bytes, set_patches, patch_operations, highest_score}
use Rattle.spec_patch.specs.TextRule.{few_bytes, allowed, few_characters}
use Rattle.spec_patch.specs.Patch.{Value, quad, signed, text, unsigned, score, Patch, N, F, T, S, available, unavailable, hidden, pending, stale}
use Rattle.spec_patch.specs.Edition.{Edition, v1, v2, added_kinds, kinds, has_kind}
use Rattle.spec_patch.specs.Encode.{heading}
use Rattle.spec_patch.specs.Reader.{Fault, malformed, over_capacity, Result, read, refused, Reader, onward, followed, mapped, pair, or_tag, no_tag, many, nothing, byte, bytes, number, literal}
use Rattle.spec_patch.specs.Read.{read_u32, read_u64, read_score, read_counted, optional_after, read_optional, quad_after, read_quad, availability_after, read_availability, read_text_by, read_text, value_after_with, value_after, in_edition, read_value_by, read_value, operation_after, read_operation_by, read_operation, to_set_binding, to_set_availability, to_insert, to_update, to_remove, to_move, read_envelope, to_envelope, read_patch, to_patch, read_patches, SetReading, patches, fault, ended, read_set}
use Rattle.spec_explain.specs.ReadingRule.{ReadingRule, set_too_long, wrong_heading, operation_tag, value_kind, optional_tag, availability_tag, quad_tag, score_range, not_utf8, patch_count, operation_count_lem, text_length, character_count, rule_fault, Inside, outside, Unread}
use Rattle.spec_explain.specs.Locate.{Located, past, stop, Locator, stop_at, go_on, ◌⨟◌, behind, field_then, field, TagRow, ◌⇒◌, by_row, tagged, repeated, counted, placed_stop, within, ends, locate_optional, locate_quad, locate_availability, locate_text, locate_score, score_row, locate_value, locate_operation, locate_envelope, locate_patch, locate_letters, locate_patches, at_end, stop_of, from_start, locate}

-- ---- what becomes of bytes: some are left, or there is a fault

pub data Fate : Type 0 where
  went : List ℕ → Fate
  failed : Fault → Fate

abbrev pub fate : Located → Fate
fate (past rest) = went rest
fate (stop s) = failed (rule_fault s.rule)

abbrev pub fate_of : {A : Type 0} → Result A → Fate
fate_of (read a rest) = went rest
fate_of (refused f) = failed f

-- the locator goes where the reader goes, and stops where it refuses
pub record Tells {A : Type 0} (l : Locator) (p : Reader A) : Type 0 where
  pub tells : (bs : List ℕ) → fate (l bs) ≡ fate_of (p bs)

went_is : {a b : List ℕ} → went a ≡ went b → a ≡ b
went_is e = cc

failed_is : {f g : Fault} → failed f ≡ failed g → f ≡ g
failed_is e = cc

not_both : {C : Type 0} {f : Fault} {a : List ℕ} → failed f ≡ went a → C
not_both e = absurd (let z : ◌≡◌ {A = ℕ} 0 1 = cc in omega arith)

-- ---- one after the other

module _ {A B : Type 0} (m : Locator) (f : A → Reader B) (next : (a : A) → Tells m (f a)) where
  onward_tells : (x : Located) (r : Result A) → fate x ≡ fate_of r → fate (go_on x m) ≡ fate_of (onward r f)
  onward_tells (past rest) (read a mid) e = ap (λ (bs : List ℕ). fate (m bs)) (went_is e) ∙ (next a).tells mid
  onward_tells (past rest) (refused g) e = not_both (sym e)
  onward_tells (stop s) (read a mid) e = not_both e
  onward_tells (stop s) (refused g) e = e

module _ {A B : Type 0} {l m : Locator} {p : Reader A} where
  tells_then : {f : A → Reader B} → Tells l p → ((a : A) → Tells m (f a)) → Tells (l ⨟ m) (followed p f)
  tells_then {f} first next = record { tells = λ bs. onward_tells m f next (l bs) (p bs) (first.tells bs) }

module _ {A B : Type 0} {l : Locator} {p : Reader A} where
  tells_mapped : (f : A → B) → Tells l p → Tells l (mapped f p)
  tells_mapped f one = record { tells = λ bs. one.tells bs ∙ same (p bs) }
    where
      same : (r : Result A) → fate_of r ≡ fate_of (onward r (λ a rest. read (f a) rest))
      same (read a rest) = refl
      same (refused g) = refl

  tells_pair : {m : Locator} {q : Reader B} → Tells l p → Tells m q → Tells (l ⨟ m) (pair p q)
  tells_pair {m} {q} one two = tells_then one (λ a. record { tells = λ bs. two.tells bs ∙ same a (q bs) })
    where
      same : (a : A) (r : Result B) → fate_of r ≡ fate_of {A = A × B} (onward r (λ b rest. read (a, b) rest))
      same a (read b rest) = refl
      same a (refused g) = refl

-- ---- fields

-- a reader that refuses nothing but too few bytes
record Short {A : Type 0} (p : Reader A) : Type 0 where
  short : (bs : List ℕ) (f : Fault) → p bs ≡ refused f → malformed ≡ f

short_if : {A : Type 0} (t : Bool) (r : Result A) (a : A) (rest : List ℕ) (f : Fault) → (if t then read a rest else refused malformed) ≡ refused f → malformed ≡ f
short_if true r a rest f e = absurd (let z : ◌≡◌ {A = ℕ} 0 1 = cc in omega arith)
short_if false r a rest f e = cc

short_byte : Short byte
short_byte = record { short = go }
  where
    go : (bs : List ℕ) (f : Fault) → byte bs ≡ refused f → malformed ≡ f
    go [] f e = cc
    go (b ∷ bs) f e = absurd (let z : ◌≡◌ {A = ℕ} 0 1 = cc in omega arith)

short_bytes : (n : ℕ) → Short (bytes n)
short_bytes n = record { short = λ bs f e. short_if (leb n (length bs)) (bytes n bs) (take n bs) (drop n bs) f e }

short_number : (n : ℕ) → Short (number n)
short_number n = record { short = λ bs f e. short_if (leb n (length bs)) (number n bs) _ (drop n bs) f e }

module _ {A B : Type 0} {p : Reader A} (plain : Short p) where
  tells_behind : (next : A → Locator) (f : A → Reader B) (bs : List ℕ) → ((a : A) (rest : List ℕ) → fate (next a rest) ≡ fate_of (f a rest)) → fate (field_then p next bs) ≡ fate_of (followed p f bs)
  tells_behind next f bs each = go (p bs) refl
    where
      go : (r : Result A) → p bs ≡ r → fate (behind bs r next) ≡ fate_of (onward r f)
      go (read a rest) is = each a rest
      go (refused g) is = ap failed (plain.short bs g is)

module _ {A : Type 0} {p : Reader A} (plain : Short p) where
  tells_field : Tells (field p) p
  tells_field = record { tells = λ bs. go bs (p bs) refl }
    where
      go : (bs : List ℕ) (r : Result A) → p bs ≡ r → fate (behind bs r (λ a rest. past rest)) ≡ fate_of r
      go bs (read a rest) is = refl
      go bs (refused g) is = ap failed (plain.short bs g is)

tells_u64 : Tells (field read_u64) read_u64
tells_u64 = tells_field (short_number 8)

tells_u32 : Tells (field read_u32) read_u32
tells_u32 = tells_field (short_number 4)

-- ---- tags

module _ {A : Type 0} where
  -- what follows a tag
  record TellsAfter (rule : ReadingRule) (rows : List TagRow) (f : ℕ → Reader A) : Type 0 where
    after : (bs : List ℕ) (t : ℕ) (rest : List ℕ) → fate (by_row rule rows bs t rest) ≡ fate_of (f t rest)

  tells_none : (rule : ReadingRule) → rule_fault rule ≡ malformed → TellsAfter rule [] no_tag
  unfolding by_row
  tells_none rule e = record { after = λ bs t rest. ap failed e }

  tells_row : {rule : ReadingRule} {rows : List TagRow} {f : ℕ → Reader A} (k : ℕ) {l : Locator} {p : Reader A} → Tells l p → TellsAfter rule rows f → TellsAfter rule (k ⇒ l ∷ rows) (or_tag k p f)
  unfolding by_row
  tells_row {rule} {rows} {f} k {l} {p} one others = record { after = λ bs t rest. go bs t rest (eqb t k) }
    where
      go : (bs : List ℕ) (t : ℕ) (rest : List ℕ) (b : Bool) → fate (if b then l rest else by_row rule rows bs t rest) ≡ fate_of (if b then p rest else f t rest)
      go bs t rest true = one.tells rest
      go bs t rest false = others.after bs t rest

  tells_tagged : {rule : ReadingRule} {rows : List TagRow} {f : ℕ → Reader A} → TellsAfter rule rows f → Tells (tagged rule rows) (followed byte f)
  tells_tagged {rule} {rows} {f} each = record { tells = λ bs. tells_behind short_byte (by_row rule rows bs) f bs (each.after bs) }

-- a tag that ends
tells_end : {A : Type 0} (a : A) → Tells ends (mapped (λ u. a) nothing)
tells_end a = record { tells = λ bs. refl }

-- ---- so many times

module _ {A : Type 0} {l : ℕ → Locator} {p : Reader A} (each : (i : ℕ) → Tells (l i) p) where
  pub tells_many : (n i : ℕ) → Tells (repeated l i n) (many n p)
  unfolding repeated many
  tells_many zero i = record { tells = λ bs. refl }
  tells_many (suc n) i = tells_then (each i) (λ a. tells_mapped (λ more. a ∷ more) (tells_many n (suc i)))

  tells_counted : (rule : ReadingRule) (capacity : ℕ) → rule_fault rule ≡ over_capacity → Tells (counted rule capacity l) (read_counted capacity p)
  tells_counted rule capacity e = record { tells = λ bs. go bs (read_u32 bs) refl }
    where
      by_count : (bs : List ℕ) (n : ℕ) (rest : List ℕ) (t : Bool)
          → fate (if t then repeated l 0 n rest else stop_at rule bs) ≡ fate_of (onward (if t then read n rest else refused over_capacity) (λ k. many k p))
      by_count bs n rest true = (tells_many n 0).tells rest
      by_count bs n rest false = ap failed e

      go : (bs : List ℕ) (r : Result ℕ) → read_u32 bs ≡ r
          → fate (behind bs r (λ n rest. if leb n capacity then repeated l 0 n rest else stop_at rule bs)) ≡ fate_of (onward (onward r (λ n rest. if leb n capacity then read n rest else refused over_capacity)) (λ k. many k p))
      go bs (read n rest) is = by_count bs n rest (leb n capacity)
      go bs (refused g) is = ap failed ((short_number 4).short bs g is)

-- the place of a stop does not matter
pub tells_within : {A : Type 0} (here : Inside) {l : Locator} {p : Reader A} → Tells l p → Tells (within here l) p
tells_within here {l} one = record { tells = λ bs. same (l bs) ∙ one.tells bs }
  where
    same : (x : Located) → fate (placed_stop here x) ≡ fate x
    same (past rest) = refl
    same (stop s) = refl

-- ---- the fields of a set

tells_optional : Tells locate_optional read_optional
unfolding locate_optional read_optional optional_after
tells_optional = tells_tagged (tells_row 0 (tells_end none) (tells_row 1 (tells_mapped some tells_u64) (tells_none optional_tag refl)))

tells_quad : Tells locate_quad read_quad
unfolding locate_quad read_quad quad_after
tells_quad = tells_tagged (tells_row 0 (tells_end N) (tells_row 1 (tells_end F) (tells_row 2 (tells_end T) (tells_row 3 (tells_end S) (tells_none quad_tag refl)))))

tells_availability : Tells locate_availability read_availability
unfolding locate_availability read_availability availability_after
tells_availability =
    tells_tagged (tells_row 0 (tells_end available) (tells_row 1 (tells_end unavailable) (tells_row 2 (tells_end hidden) (tells_row 3 (tells_end pending) (tells_row 4 (tells_end stale) (tells_none availability_tag refl))))))

tells_text : Tells locate_text read_text
unfolding locate_text read_text_by
tells_text = record { tells = λ bs. tells_behind (short_number 4) _ _ bs (λ n mid. body bs n mid (bytes n mid) refl) }
  where
    -- what is asked of a text, one after the other
    few : List ℕ → List ℕ → Result (List ℕ)
    few l rest = if few_characters true l then read l rest else refused over_capacity

    utf8 : List ℕ → List ℕ → Result (List ℕ)
    utf8 l rest = if allowed true l then read l rest else refused malformed

    by_characters : (mid t rest : List ℕ) (b : Bool) → fate (if b then past rest else stop_at character_count mid) ≡ fate_of (if b then read t rest else refused over_capacity)
    by_characters mid t rest true = refl
    by_characters mid t rest false = refl

    by_rule : (mid t rest : List ℕ) (b : Bool)
        → fate (if b then (if few_characters true t then past rest else stop_at character_count mid) else stop_at not_utf8 mid) ≡ fate_of (onward (if b then read t rest else refused malformed) few)
    by_rule mid t rest true = by_characters mid t rest (few_characters true t)
    by_rule mid t rest false = refl

    by_bytes : (bs mid t rest : List ℕ) (b : Bool)
        → fate (if b then (if allowed true t then (if few_characters true t then past rest else stop_at character_count mid) else stop_at not_utf8 mid) else stop_at text_length bs)
        ≡ fate_of (onward (onward (if b then read t rest else refused over_capacity) utf8) few)
    by_bytes bs mid t rest true = by_rule mid t rest (allowed true t)
    by_bytes bs mid t rest false = refl

    body : (bs : List ℕ) (n : ℕ) (mid : List ℕ) (r : Result (List ℕ)) → bytes n mid ≡ r
        → fate (behind mid r (λ t rest. if few_bytes t then (if allowed true t then (if few_characters true t then past rest else stop_at character_count mid) else stop_at not_utf8 mid) else stop_at text_length bs))
        ≡ fate_of (onward (onward (onward r (λ l rest. if few_bytes l then read l rest else refused over_capacity)) utf8) few)
    body bs n mid (read t rest) is = by_bytes bs mid t rest (few_bytes t)
    body bs n mid (refused g) is = ap failed ((short_bytes n).short mid g is)

tells_score : Tells locate_score read_score
unfolding locate_score
tells_score = record { tells = λ bs. tells_behind short_byte _ _ bs (λ n rest. go bs n rest (leb n highest_score)) }
  where
    go : (bs : List ℕ) (n : ℕ) (rest : List ℕ) (b : Bool) → fate (if b then past rest else stop_at score_range bs) ≡ fate_of (if b then read n rest else refused malformed)
    go bs n rest true = refl
    go bs n rest false = refl

-- the rows of an edition are the kinds that it has
record TellsKinds (rows : List TagRow) (known : List ℕ) (f : ℕ → Reader Value) : Type 0 where
  after : (bs : List ℕ) (t : ℕ) (rest : List ℕ) → fate (by_row value_kind rows bs t rest) ≡ fate_of (if any (eqb t) known then f t rest else refused malformed)

tells_no_kind : (f : ℕ → Reader Value) → TellsKinds [] [] f
unfolding by_row
tells_no_kind f = record { after = λ bs t rest. refl }

tells_kind : (k : ℕ) {l : Locator} {p : Reader Value} {rows : List TagRow} {known : List ℕ} {f : ℕ → Reader Value} → Tells l p → TellsKinds rows known f → TellsKinds (k ⇒ l ∷ rows) (k ∷ known) (or_tag k p f)
unfolding by_row
tells_kind k {l} {p} {rows} {known} {f} one others = record { after = λ bs t rest. go bs t rest (eqb t k) (others.after bs t rest) }
  where
    go : (bs : List ℕ) (t : ℕ) (rest : List ℕ) (b : Bool) → fate (by_row value_kind rows bs t rest) ≡ fate_of (if any (eqb t) known then f t rest else refused malformed)
        → fate (if b then l rest else by_row value_kind rows bs t rest) ≡ fate_of (if b || any (eqb t) known then (if b then p rest else f t rest) else refused malformed)
    go bs t rest true later = one.tells rest
    go bs t rest false later = later

tells_kinds : (ed : Edition) → TellsKinds (1 ⇒ locate_quad ∷ 2 ⇒ field read_u64 ∷ 3 ⇒ locate_text ∷ 4 ⇒ field read_u64 ∷ score_row ed) (kinds ed) (value_after_with read_text)
unfolding kinds added_kinds score_row
tells_kinds ed =
    tells_kind 1 (tells_mapped quad tells_quad)
    (tells_kind 2 (tells_mapped signed (tells_mapped _ tells_u64))
    (tells_kind 3 (tells_mapped text tells_text)
    (tells_kind 4 (tells_mapped unsigned tells_u64) (with_scores ed))))
  where
    with_scores : (ed : Edition) → TellsKinds (score_row ed) (added_kinds ed) (or_tag 5 (mapped score read_score) no_tag)
    with_scores v1 = tells_no_kind _
    with_scores v2 = tells_kind 5 (tells_mapped score tells_score) (tells_no_kind _)

pub tells_letters : (xs : List ℕ) → Tells (locate_letters xs) (literal xs)
unfolding locate_letters literal
tells_letters [] = record { tells = λ bs. refl }
tells_letters (x ∷ xs) = record { tells = λ bs. tells_behind short_byte _ _ bs (λ b rest. go bs rest (tells_letters xs) (eqb b x)) }
  where
    go : (bs rest : List ℕ) → Tells (locate_letters xs) (literal xs) → (t : Bool) → fate (if t then locate_letters xs rest else stop_at wrong_heading bs) ≡ fate_of (if t then literal xs rest else refused malformed)
    go bs rest more true = more.tells rest
    go bs rest more false = refl

pub tells_envelope : Tells locate_envelope read_envelope
unfolding locate_envelope read_envelope
tells_envelope =
    tells_mapped to_envelope
    (tells_pair tells_u64 (tells_pair tells_u64 (tells_pair tells_u64 (tells_pair tells_optional (tells_pair tells_u64 (tells_pair tells_u64 (tells_pair tells_u64 tells_u64)))))))

module _ (ed : Edition) where
  tells_value : Tells (locate_value ed) (read_value ed)
  unfolding locate_value read_value_by value_after in_edition has_kind
  tells_value = tells_tagged (record { after = (tells_kinds ed).after })

  pub tells_operation : Tells (locate_operation ed) (read_operation ed)
  unfolding locate_operation read_operation_by operation_after
  tells_operation =
      tells_tagged
      (tells_row 1 (tells_mapped to_set_binding (tells_pair tells_u64 (tells_pair tells_u32 tells_value)))
      (tells_row 2 (tells_mapped to_set_availability (tells_pair tells_u64 tells_availability))
      (tells_row 3 (tells_mapped to_insert (tells_pair tells_u64 (tells_pair tells_u64 (tells_pair tells_optional tells_value))))
      (tells_row 4 (tells_mapped to_update (tells_pair tells_u64 (tells_pair tells_u64 tells_value)))
      (tells_row 5 (tells_mapped to_remove (tells_pair tells_u64 tells_u64))
      (tells_row 6 (tells_mapped to_move (tells_pair tells_u64 (tells_pair tells_u64 tells_optional))) (tells_none operation_tag refl)))))))

  pub tells_patch : (i : ℕ) → Tells (locate_patch ed i) (read_patch ed)
  unfolding locate_patch read_patch
  tells_patch i =
      tells_within _
      (tells_mapped to_patch (tells_pair tells_envelope (tells_counted (λ j. tells_within _ tells_operation) operation_count_lem patch_operations refl)))

  tells_patches : Tells (locate_patches ed) (read_patches ed)
  unfolding locate_patches read_patches
  tells_patches = tells_mapped (λ t. t.1) (tells_pair (tells_letters (heading ed)) (tells_counted tells_patch patch_count set_patches refl))

  -- ---- a whole set

  -- a set that is read stops nowhere; one that is not stops by a rule of the fault
  pub data Agrees : Option Unread → SetReading → Type 0 where
    reads : (ps : List Patch) → Agrees none (patches ps)
    stops : (u : Unread) (f : Fault) → rule_fault u.rule ≡ f → Agrees (some u) (fault f)

  pub locate_agrees : (set : List ℕ) → Agrees (locate ed set) (read_set ed set)
  unfolding locate stop_of read_set at_end ended
  locate_agrees set = by_length (leb (length set) set_bytes)
    where
      by_fate : (x : Located) (r : Result (List Patch)) → fate x ≡ fate_of r → Agrees (from_start set (at_end x)) (ended r)
      by_fate (past []) (read ps []) e = reads ps
      by_fate (past []) (read ps (b ∷ rest)) e = absurd (let z : ◌≡◌ {A = ℕ} 0 1 = cc in omega arith)
      by_fate (past (b ∷ rest)) (read ps []) e = absurd (let z : ◌≡◌ {A = ℕ} 0 1 = cc in omega arith)
      by_fate (past (b ∷ rest)) (read ps (c ∷ more)) e = stops _ malformed refl
      by_fate (past rest) (refused g) e = not_both (sym e)
      by_fate (stop s) (read ps rest) e = not_both e
      by_fate (stop s) (refused g) e = stops _ g (failed_is e)

      by_length : (t : Bool) → Agrees (from_start set (if t then at_end (locate_patches ed set) else some (record { rule = set_too_long; inside = outside; left = length set }))) (if t then ended (read_patches ed set) else fault over_capacity)
      by_length true = by_fate (locate_patches ed set) (read_patches ed set) (tells_patches.tells set)
      by_length false = stops _ over_capacity refl

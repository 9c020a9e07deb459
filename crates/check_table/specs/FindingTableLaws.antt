-- Laws of a table of findings: records and their numbers, and where a finding goes.
use Rattle.std.specs.Prelude.{ℕ, zero, suc, ◌+◌, ◌*◌, ◌-◌, ◌≤◌, ◌<◌, ◌≡◌, refl, Bool, true, false, get_or, set, if◌then◌else◌}
use Rattle.std.proofs.Math.Path.{sym, ap}
use Rattle.std.proofs.Common.{◌∙◌, add-zero, arith, length-take, length-drop, take_at, drop-drop, le-leb}
use mathlib.Core.List.{List, [], ◌∷◌, ◌++◌, append_assoc, flat_map}
use Rattle.std.proofs.Math.ListN.{length, take, drop, take-append-drop, length-append}
use borrow.Rule.Slice.PartMut.{mid_of, put_mid}
use Rattle.std.proofs.lemmas.Bool.{lt-leb}
use Rattle.spec_lists.proofs.ListLaws.{flat_map_append}
use Rattle.spec_lists.specs.Order.{lex_less, upsert, sort_unique}
use Rattle.spec_lists.proofs.OrderLaws.{lex_less_total, sort_unique_length, sort_unique_snoc}
use Rattle.bytes_records.specs.Moves.{push_front}
use Rattle.bytes_records.proofs.Parts.{lent}
use Rattle.bytes_records.specs.Keys.{order_of}
use Rattle.bytes_records.specs.Positions.{insert_at}
use Rattle.bytes_records.specs.PositionsLaws.{length_insert_at}
use Rattle.bytes_records.specs.Search.{next_place, place_of, upsert_at, PlaceWithin, later}
use Rattle.bytes_records.specs.SearchLaws.{upsert_place, later_next}
use Rattle.spec_checks.specs.Finding.{Finding, finding_key}
use Rattle.spec_checks.specs.Answer.{record_length, finding_words}
use Rattle.spec_checks.proofs.AnswerLaws.{finding_words_length}
use Rattle.spec_checks.proofs.FindingsLaws.{finding_key_injective}
use Rattle.check_targets.specs.Threes.{three_at}
use Rattle.check_table.specs.FindingTable.{findings_in, table_has_room, inserted_findings, inserted_count, inserted_numbers, KeptFindings}
use Rattle.std.specs.Prelude.{Result, Ok, Err}
use Rattle.std.specs.declared.cmp.Ordering.{Ordering}
use Rattle.std.specs.declared.cmp.Ordering.TheVariants.{Less, Equal, Greater}

-- ---- records and their numbers

pub words_findings : (n : ℕ) (ns : List ℕ) → length ns ≡ record_length * n → finding_words (findings_in ns) ≡ ns
unfolding finding_words findings_in finding_key flat_map
words_findings n [] h = refl
words_findings n (k ∷ []) h = absurd (omega arith)
words_findings n (k ∷ d ∷ []) h = absurd (omega arith)
words_findings zero (k ∷ d ∷ s ∷ ns) h = absurd (omega arith)
words_findings (suc n) (k ∷ d ∷ s ∷ ns) h = ap (λ l. k ∷ d ∷ s ∷ l) (words_findings n ns (omega arith))

pub findings_words : (fs : List Finding) → findings_in (finding_words fs) ≡ fs
unfolding finding_words findings_in finding_key flat_map
findings_words [] = refl
findings_words (f ∷ fs) = ap (λ l. f ∷ l) (findings_words fs)

pub findings_in_length : (n : ℕ) (ns : List ℕ) → length ns ≡ record_length * n → length (findings_in ns) ≡ n
findings_in_length n ns h = omega (arith, finding_words_length (findings_in ns), ap length (words_findings n ns h))

findings_few : (ns : List ℕ) → length ns < 3 → findings_in ns ≡ []
unfolding findings_in
findings_few [] h = refl
findings_few (k ∷ []) h = refl
findings_few (k ∷ d ∷ []) h = refl
findings_few (k ∷ d ∷ s ∷ ns) h = absurd (omega arith)

-- ---- the place of a finding

-- the place by how the first element stands to the key, given the place among the others
abbrev by_order : Ordering → Result ℕ ℕ → Result ℕ ℕ
by_order Less p = next_place p
by_order Equal p = Ok zero
by_order Greater p = Err zero

place_order : {A : Type 0} (key : A → List ℕ) (k : List ℕ) (x : A) (xs : List A) → place_of key k (x ∷ xs) ≡ by_order (order_of (key x) k) (place_of key k xs)
unfolding place_of order_of
place_order key k x xs = go (lex_less k (key x)) (lex_less (key x) k) (place_of key k xs)
  where
    go : (s t : Bool) (p : Result ℕ ℕ) → (if s then Err zero else if t then next_place p else Ok zero) ≡ by_order (if s then Greater else if t then Less else Equal) p
    go true t p = refl
    go false true p = refl
    go false false p = refl

-- a search that has come to position `at`, past i records
module _ (f : Finding) (ns : List ℕ) (at i : ℕ) where
  abbrev pub FindingPlaced : Type 0
  FindingPlaced = place_of finding_key (finding_key f) (findings_in ns) ≡ later i (place_of finding_key (finding_key f) (findings_in (drop at ns)))

  abbrev own : Finding
  own = record { kind = get_or ns at 0; domain = get_or ns (at + 1) 0; secondary = get_or ns (at + 2) 0 }

  module _ (within : at + 3 ≤ length ns) (o : Ordering) (e : order_of (finding_key own) (finding_key f) ≡ o) where
    placed_turn : place_of finding_key (finding_key f) (findings_in (drop at ns)) ≡ by_order o (place_of finding_key (finding_key f) (findings_in (drop (at + 3) ns)))
    unfolding findings_in
    placed_turn =
        ap (λ l. place_of finding_key (finding_key f) (findings_in l)) (three_at ns at within)
        ∙ place_order finding_key (finding_key f) own (findings_in (drop (at + 3) ns))
        ∙ ap (λ q. by_order q (place_of finding_key (finding_key f) (findings_in (drop (at + 3) ns)))) e

    pub placed_below : FindingPlaced → o ≡ Less → place_of finding_key (finding_key f) (findings_in ns) ≡ later (i + 1) (place_of finding_key (finding_key f) (findings_in (drop (at + 3) ns)))
    placed_below p h = p ∙ ap (later i) (placed_turn ∙ ap (λ q. by_order q (place_of finding_key (finding_key f) (findings_in (drop (at + 3) ns)))) h) ∙ later_next i (place_of finding_key (finding_key f) (findings_in (drop (at + 3) ns)))

    pub placed_same : FindingPlaced → o ≡ Equal → place_of finding_key (finding_key f) (findings_in ns) ≡ Ok i
    placed_same p h = p ∙ ap (later i) (placed_turn ∙ ap (λ q. by_order q (place_of finding_key (finding_key f) (findings_in (drop (at + 3) ns)))) h) ∙ ap Ok (add-zero i)

    pub placed_above : FindingPlaced → o ≡ Greater → place_of finding_key (finding_key f) (findings_in ns) ≡ Err i
    placed_above p h = p ∙ ap (later i) (placed_turn ∙ ap (λ q. by_order q (place_of finding_key (finding_key f) (findings_in (drop (at + 3) ns)))) h) ∙ ap Err (add-zero i)

  pub placed_last : FindingPlaced → length (drop at ns) < 3 → place_of finding_key (finding_key f) (findings_in ns) ≡ Err i
  unfolding place_of
  placed_last p h = p ∙ ap (λ l. later i (place_of finding_key (finding_key f) l)) (findings_few (drop at ns) h) ∙ ap Err (add-zero i)

-- ---- a finding that is there already

abbrev IsTaken : Result ℕ ℕ → Type 0
IsTaken (Ok i) = Unit {0}
IsTaken (Err i) = ⊥

upsert_same : (f : Finding) (fs : List Finding) → IsTaken (place_of finding_key (finding_key f) fs) → upsert finding_key f fs ≡ fs
unfolding upsert place_of next_place
upsert_same f [] h = absurd h
upsert_same f (g ∷ fs) h = go (lex_less (finding_key f) (finding_key g)) refl (lex_less (finding_key g) (finding_key f)) refl (place_of finding_key (finding_key f) fs) (upsert_same f fs) h
  where
    go : (s : Bool) → lex_less (finding_key f) (finding_key g) ≡ s → (t : Bool) → lex_less (finding_key g) (finding_key f) ≡ t → (p : Result ℕ ℕ)
        → (IsTaken p → upsert finding_key f fs ≡ fs) → IsTaken (if s then Err zero else if t then next_place p else Ok zero)
        → (if s then f ∷ g ∷ fs else if t then g ∷ upsert finding_key f fs else f ∷ fs) ≡ g ∷ fs
    go true a t b p ih h = absurd h
    go false a true b (Ok i) ih h = ap (λ l. g ∷ l) (ih tt)
    go false a true b (Err i) ih h = absurd h
    go false a false b p ih h = ap (λ x. x ∷ fs) (finding_key_injective f g (lex_less_total (finding_key f) (finding_key g) a b))

pub upsert_kept : (f : Finding) (fs : List Finding) (i : ℕ) → place_of finding_key (finding_key f) fs ≡ Ok i → upsert finding_key f fs ≡ fs
upsert_kept f fs i e = upsert_same f fs (rw e tt)

pub upsert_before : (f : Finding) (fs : List Finding) (i : ℕ) → place_of finding_key (finding_key f) fs ≡ Err i → upsert finding_key f fs ≡ insert_at i f fs
unfolding upsert_at
upsert_before f fs i e = upsert_place finding_key f fs ∙ rw e

-- ---- a finding that is inserted

module _ (ns : List ℕ) (count i : ℕ) (f : Finding) (fs : List Finding) (words : take (record_length * count) ns ≡ finding_words fs) (counted : length fs ≡ count)
    (below : i ≤ count) (room : record_length * count + record_length ≤ length ns) where
  abbrev front : List ℕ
  front = finding_words (take i fs)

  abbrev back : List ℕ
  back = finding_words (drop i fs)

  abbrev past : List ℕ
  past = drop (record_length * count) ns

  words_split : finding_words fs ≡ front ++ back
  unfolding finding_words
  words_split = ap (flat_map finding_key) (sym (take-append-drop i fs)) ∙ flat_map_append finding_key (take i fs) (drop i fs)

  numbers_split : ns ≡ front ++ ((back ++ take 3 past) ++ drop 3 past)
  numbers_split =
      sym (take-append-drop (record_length * count) ns) ∙ ap (λ l. l ++ past) (words ∙ words_split) ∙ append_assoc front back past
      ∙ ap (λ l. front ++ (back ++ l)) (sym (take-append-drop 3 past)) ∙ ap (λ l. front ++ l) (sym (append_assoc back (take 3 past) (drop 3 past)))

  front_length : length front ≡ record_length * i
  front_length = omega (arith, finding_words_length (take i fs), length-take i fs)

  back_length : length back ≡ record_length * count - record_length * i
  back_length = omega (arith, finding_words_length (drop i fs), length-drop i fs)

  lost_length : length (take 3 past) ≡ 3
  lost_length = omega (arith, length-take 3 past, length-drop (record_length * count) ns)

  part_length : length (back ++ take 3 past) ≡ record_length * count + record_length - record_length * i
  part_length = omega (arith, length-append back (take 3 past), lost_length, back_length)

  pushed : push_front (finding_key f) (back ++ take 3 past) ≡ finding_key f ++ back
  unfolding finding_key
  pushed =
      let size : length back ≡ length (back ++ take 3 past) - length (finding_key f) = omega (arith, length-append back (take 3 past), lost_length) in
      ap (λ l. finding_key f ++ l) (take_at back (take 3 past) _ size)

  words_inserted : finding_words (insert_at i f fs) ≡ front ++ (finding_key f ++ back)
  unfolding finding_words flat_map
  words_inserted = flat_map_append finding_key (take i fs) (f ∷ drop i fs)

  pub finding_inserted : (ys : List ℕ) → ys ≡ push_front (finding_key f) (mid_of (record_length * i) (record_length * count + record_length - record_length * i) ns)
      → put_mid (record_length * i) (record_length * count + record_length - record_length * i) ns ys ≡ finding_words (insert_at i f fs) ++ drop (record_length * length (insert_at i f fs)) ns
  finding_inserted ys e =
      let size : record_length * length (insert_at i f fs) ≡ record_length * count + 3 = omega (arith, length_insert_at i f fs) in
      let rest : drop (record_length * length (insert_at i f fs)) ns ≡ drop 3 past = ap (λ n. drop n ns) size ∙ sym (drop-drop 3 (record_length * count) ns) in
      lent ns front (back ++ take 3 past) (drop 3 past) _ _ numbers_split front_length part_length (push_front (finding_key f)) ys e
      ∙ ap (λ l. front ++ (l ++ drop 3 past)) pushed ∙ sym (append_assoc front (finding_key f ++ back) (drop 3 past))
      ∙ sym (ap (λ l. l ++ drop 3 past) words_inserted) ∙ ap (λ l. finding_words (insert_at i f fs) ++ l) (sym rest)

-- ---- what a table is afterwards

-- three numbers over the front of a list that has been moved up by three
pub pushed_three : (s moved : List ℕ) (a b c : ℕ) → 3 ≤ length s → moved ≡ take 3 s ++ take (length s - 3) s → set (set (set moved 0 a) 1 b) 2 c ≡ push_front (a ∷ b ∷ c ∷ []) s
pushed_three [] moved a b c h e = absurd (omega arith)
pushed_three (x ∷ []) moved a b c h e = absurd (omega arith)
pushed_three (x ∷ y ∷ []) moved a b c h e = absurd (omega arith)
pushed_three (x ∷ y ∷ z ∷ s) moved a b c h e = ap (λ l. set (set (set l 0 a) 1 b) 2 c) e

pub within_before : (n i : ℕ) (p : Result ℕ ℕ) → PlaceWithin n p → p ≡ Err i → i ≤ n
unfolding PlaceWithin
within_before n i p w e = rw e at w

module _ (f : Finding) (count : ℕ) (ns : List ℕ) where
  pub table_full : length ns < record_length * count + record_length → (count ≡ inserted_count f count ns) × (ns ≡ inserted_numbers f count ns)
  unfolding inserted_count inserted_numbers table_has_room
  table_full h = (rw (lt-leb (record_length * count + record_length) (length ns) h), rw (lt-leb (record_length * count + record_length) (length ns) h))

  module _ (room : record_length * count + record_length ≤ length ns) where
    abbrev held : List Finding
    held = findings_in (take (record_length * count) ns)

    held_size : length (take (record_length * count) ns) ≡ record_length * count
    held_size = omega (arith, length-take (record_length * count) ns)

    held_count : length held ≡ count
    held_count = findings_in_length count (take (record_length * count) ns) held_size

    held_words : finding_words held ≡ take (record_length * count) ns
    held_words = words_findings count (take (record_length * count) ns) held_size

    count_is : (fs : List Finding) → inserted_findings f count ns ≡ fs → length fs ≡ inserted_count f count ns
    unfolding inserted_count table_has_room
    count_is fs e = rw (le-leb (record_length * count + record_length) (length ns) room) (sym (ap length e))

    numbers_are : (fs : List Finding) → inserted_findings f count ns ≡ fs → finding_words fs ++ drop (record_length * length fs) ns ≡ inserted_numbers f count ns
    unfolding inserted_numbers table_has_room
    numbers_are fs e = rw (le-leb (record_length * count + record_length) (length ns) room) (sym (ap (λ l. finding_words l ++ drop (record_length * length l) ns) e))

    pub there_already : (i : ℕ) → place_of finding_key (finding_key f) held ≡ Ok i → (count ≡ inserted_count f count ns) × (ns ≡ inserted_numbers f count ns)
    unfolding inserted_findings
    there_already i e =
        let same = upsert_kept f held i e in (
          sym held_count ∙ count_is held same,
          sym (ap (λ l. l ++ drop (record_length * length held) ns) held_words ∙ ap (λ n. take (record_length * count) ns ++ drop (record_length * n) ns) held_count ∙ take-append-drop (record_length * count) ns) ∙ numbers_are held same,
        )

    pub one_more : (i : ℕ) → place_of finding_key (finding_key f) held ≡ Err i → i ≤ count → (ys : List ℕ)
        → ys ≡ push_front (finding_key f) (mid_of (record_length * i) (record_length * count + record_length - record_length * i) ns)
        → (count + 1 ≡ inserted_count f count ns) × (put_mid (record_length * i) (record_length * count + record_length - record_length * i) ns ys ≡ inserted_numbers f count ns)
    unfolding inserted_findings
    one_more i e below ys h =
        let more = upsert_before f held i e in (
          omega (arith, length_insert_at i f held, held_count) ∙ count_is (insert_at i f held) more,
          finding_inserted ns count i f held (sym held_words) held_count below room ys h ∙ numbers_are (insert_at i f held) more,
        )

-- ---- the findings one after the other

pub kept_none : (ns : List ℕ) → KeptFindings [] 0 ns
unfolding sort_unique finding_words flat_map
kept_none ns = record { counted = refl; words = refl }

-- one finding more; there is room where the slice has three places for each finding so far and for this one
module _ (f : Finding) (raw : List Finding) (count : ℕ) (ns : List ℕ) (kept : KeptFindings raw count ns) (room : record_length * length raw + record_length ≤ length ns) where
  abbrev sorted : List Finding
  sorted = sort_unique finding_key (raw ++ (f ∷ []))

  kept_room : record_length * count + record_length ≤ length ns
  kept_room = omega (arith, kept.counted, sort_unique_length finding_key raw)

  sorted_is : inserted_findings f count ns ≡ sorted
  unfolding inserted_findings
  sorted_is =
      ap (λ l. upsert finding_key f (findings_in l)) kept.words ∙ ap (upsert finding_key f) (findings_words (sort_unique finding_key raw))
      ∙ sym (sort_unique_snoc finding_key finding_key_injective raw f)

  pub kept_snoc : KeptFindings (raw ++ (f ∷ [])) (inserted_count f count ns) (inserted_numbers f count ns)
  kept_snoc =
      let counts = count_is f count ns kept_room sorted sorted_is in
      let numbers = numbers_are f count ns kept_room sorted sorted_is in
      record {
        counted = sym counts;
        words =
            ap (λ n. take (record_length * n) (inserted_numbers f count ns)) (sym counts) ∙ ap (take (record_length * length sorted)) (sym numbers)
            ∙ take_at (finding_words sorted) (drop (record_length * length sorted) ns) _ (finding_words_length sorted);
      }

  pub inserted_length : length (inserted_numbers f count ns) ≡ length ns
  inserted_length =
      let few : length sorted ≤ length raw + 1 = omega (arith, sort_unique_length finding_key (raw ++ (f ∷ [])), length-append raw (f ∷ [])) in
      let words = finding_words sorted in
      let rest = drop (record_length * length sorted) ns in
      let whole : length (words ++ rest) ≡ length ns = omega (arith, length-append words rest, finding_words_length sorted, length-drop (record_length * length sorted) ns) in
      ap length (sym (numbers_are f count ns kept_room sorted sorted_is)) ∙ whole

-- What a conversion gives is read in the other edition as the same patch list, and converted back it is the same set. It succeeds exactly for
-- a set that is read, has no value of a kind that is missing, and finds room; and it changes one letter.
use Rattle.std.specs.Prelude.{ℕ, ◌+◌, ◌≤◌, Bool, false, not, ◌&&◌, ◌||◌, ◌↔◌, eqb, if◌then◌else◌}
use Rattle.std.proofs.Math.Path.{◌≡◌, refl, sym, ap, ap₂}
use Rattle.std.proofs.Common.{subst, ◌∙◌, arith, length-append}
use Rattle.std.proofs.Math.Bool.{true}
use Rattle.std.proofs.lemmas.Bool.{false≢true}
use mathlib.Core.List.{List, [], ◌∷◌, ◌++◌, append_assoc}
use borrow.Author.Tests.{leb-true, le-leb}
use Rattle.std.proofs.Math.Dec.{leb}
use Rattle.std.proofs.Math.ListN.{length, take, drop}
use Rattle.std.proofs.Math.Seq.{take_at}
use Rattle.spec_lists.specs.Lists.{all, any}
use Rattle.spec_lists.proofs.ListLaws.{and_left, and_right, drop_behind}
use Rattle.spec_lists.specs.Bytes.{Bytes}
use Rattle.spec_lists.proofs.BytesLaws.{length_little_endian}
use Rattle.spec_patch.specs.Patch.{Value, quad, signed, text, unsigned, score, Operation, set_binding, set_availability, insert, update, remove, move, Patch}
use Rattle.spec_patch.specs.Edition.{Edition, v1, v2, edition_digit, letters, added_kinds, kinds, has_kind}
use Rattle.spec_patch.specs.Encode.{u32, kind_of, encode_counted, encode_patch, heading, encode}
use Rattle.spec_patch.specs.Fits.{Fits}
use Rattle.spec_patch.proofs.FitsLaws.{length_encode}
use Rattle.spec_patch.specs.Read.{SetReading, patches, fault, read_set}
use Rattle.spec_patch.proofs.SetLaws.{reads_back, was_encoded}
use Rattle.spec_patch.specs.Write.{value_passes, all_values, allowed_value, well_formed, within_capacities}
use Rattle.spec_patch.proofs.WriteLaws.{fits_of_tests, capacities_of_fits, well_formed_of_fits, few_of_fits, fits_in_range}
use Rattle.spec_conversion.specs.Conversion.{other_edition, ConversionRefusal, kind_missing, output_too_short, unread, converted, refused, kind_in, all_kinds, rewritten, convert_to, convert, is_score, without_scores}

-- ---- tests of every value

-- two tests of every element give a third
all_both : {A : Type 0} (p q r : A → Bool) → ((x : A) → p x ≡ true → q x ≡ true → r x ≡ true) → (l : List A) → all p l ≡ true → all q l ≡ true → all r l ≡ true
all_both p q r k [] a b = refl
all_both p q r k (x ∷ l) a b =
    ap₂ (λ (s t : Bool). s && t)
    (k x (and_left (p x) (all p l) a) (and_left (q x) (all q l) b))
    (all_both p q r k l (and_right (p x) (all p l) a) (and_right (q x) (all q l) b))

module _ (f g h : Value → Bool) (both : (v : Value) → f v ≡ true → g v ≡ true → h v ≡ true) where
  passes_both : (o : Operation) → value_passes f o ≡ true → value_passes g o ≡ true → value_passes h o ≡ true
  unfolding value_passes
  passes_both (set_binding n s v) a b = both v a b
  passes_both (set_availability n x) a b = refl
  passes_both (insert c k n v) a b = both v a b
  passes_both (update c k v) a b = both v a b
  passes_both (remove c k) a b = refl
  passes_both (move c k n) a b = refl

  values_both : (ps : List Patch) → all_values f ps ≡ true → all_values g ps ≡ true → all_values h ps ≡ true
  unfolding all_values
  values_both ps a b = all_both _ _ _ (λ (p : Patch). all_both (value_passes f) (value_passes g) (value_passes h) passes_both p.operations) ps a b

-- ---- a list in two editions

-- the letters before the digit, and what is behind it
abbrev front : Edition → List ℕ
front ed = u32 27 ++ take 26 (letters ed)

abbrev behind : List Patch → List ℕ
behind ps = encode_counted encode_patch ps

module _ (ed : Edition) where
  length_front : length (front ed) ≡ 30
  unfolding letters
  length_front = simp (length-append, length_little_endian)

  encode_parts : (ps : List Patch) → encode ed ps ≡ front ed ++ (edition_digit ed ∷ behind ps)
  unfolding encode heading letters
  encode_parts ps = append_assoc (u32 27) (letters ed) (behind ps) ∙ sym (append_assoc (u32 27) (take 26 (letters ed)) (edition_digit ed ∷ behind ps))

  length_heading : length (heading ed) ≡ 31
  unfolding heading letters
  length_heading = simp (length-append, length_little_endian)

  -- a set that is read has a heading
  pub heading_within : (set : List ℕ) (ps : List Patch) → Bytes set → read_set ed set ≡ patches ps → 31 ≤ length set
  heading_within set ps all_bytes r = omega (arith, ap length (was_encoded ed set ps all_bytes r).0, length_encode ed ps, length_heading)

  -- a list that fits has values of the edition's kinds
  fits_kinds : (ps : List Patch) → Fits ed ps → all_kinds ed ps ≡ true
  unfolding all_kinds well_formed
  fits_kinds ps h = let formed = well_formed_of_fits ed ps h in values_both (well_formed ed) (well_formed ed) (kind_in ed) (λ v a b. and_left (has_kind ed (kind_of v)) (allowed_value v) a) ps formed formed

module _ (from to : Edition) where
  same_length : (ps : List Patch) → length (encode to ps) ≡ length (encode from ps)
  same_length ps = omega (arith, length_encode from ps, length_encode to ps, length_heading from, length_heading to)

  -- one letter of the canonical bytes is the edition's
  letter_changed : (ps : List Patch) → encode to ps ≡ take 30 (encode from ps) ++ (edition_digit to ∷ drop 31 (encode from ps))
  unfolding letters
  letter_changed ps =
      let before = take_at (front from) (edition_digit from ∷ behind ps) 30 (length_front from) in
      let after = drop_behind 31 (front from) (edition_digit from ∷ []) (behind ps) (length-append (front from) (edition_digit from ∷ []) ∙ ap (λ (n : ℕ). n + 1) (length_front from)) in
      encode_parts to ps
      ∙ ap₂ (λ (a b : List ℕ). a ++ (edition_digit to ∷ b)) (sym before) (sym after)
      ∙ ap (λ (l : List ℕ). take 30 l ++ (edition_digit to ∷ drop 31 l)) (sym (encode_parts from ps))

  -- a list that fits one edition fits another that has the kinds of its values
  fits_other : (ps : List Patch) → Fits from ps → all_kinds to ps ≡ true → Fits to ps
  unfolding all_kinds well_formed within_capacities
  fits_other ps h k =
      let formed = values_both (well_formed from) (kind_in to) (well_formed to) (λ v a b. rw b (and_right (has_kind from (kind_of v)) (allowed_value v) a)) ps (well_formed_of_fits from ps h) k in
      let within : within_capacities to ps ≡ true = rw (same_length ps) (capacities_of_fits from ps h) in
      fits_of_tests to ps (fits_in_range from ps h) within formed (few_of_fits from ps h)

-- ---- what is converted

module _ (from to : Edition) where
  -- a set that is read, whose values have kinds of the other edition, and room for it
  pub record Convertible (set : List ℕ) (room : ℕ) : Type 0 where
    pub list : List Patch
    pub reads : read_set from set ≡ patches list
    pub kinds : all_kinds to list ≡ true
    pub enough : length set ≤ room

  -- the list that was read, and its bytes before and after
  pub record Conversion (set : List ℕ) (room : ℕ) (bs : List ℕ) : Type 0 where
    pub list : List Patch
    pub reads : read_set from set ≡ patches list
    pub kinds : all_kinds to list ≡ true
    pub before : set ≡ encode from list
    pub after : bs ≡ encode to list
    pub fits : Fits from list
    pub enough : length bs ≤ room

  pub conversion : (set : List ℕ) (room : ℕ) (bs : List ℕ) → Bytes set → convert_to from to set room ≡ converted bs → Conversion set room bs
  unfolding convert_to rewritten
  conversion set room bs all_bytes e = by_reading (read_set from set) refl e
    where
      never : {C : Type 0} (n : ConversionRefusal) → refused n ≡ converted bs → C
      never n e = absurd (let z : ◌≡◌ {A = ℕ} 0 1 = cc in omega arith)

      by_tests : (ps : List Patch) → read_set from set ≡ patches ps → (k : Bool) → all_kinds to ps ≡ k → (l : Bool) → leb (length (encode to ps)) room ≡ l
          → (if k then (if l then converted (encode to ps) else refused output_too_short) else refused kind_missing) ≡ converted bs → Conversion set room bs
      by_tests ps r true k true l e =
          let encoded = was_encoded from set ps all_bytes r in
          let same : encode to ps ≡ bs = cc in
          record {
            list = ps;
            reads = r;
            kinds = k;
            before = encoded.0;
            after = sym same;
            fits = encoded.1;
            enough = subst (λ (l : List ℕ). length l ≤ room) same (leb-true (length (encode to ps)) room l);
          }
      by_tests ps r true k false l e = never output_too_short e
      by_tests ps r false k l m e = never kind_missing e

      by_reading : (r : SetReading) → read_set from set ≡ r → rewritten to room r ≡ converted bs → Conversion set room bs
      by_reading (patches ps) r e = by_tests ps r (all_kinds to ps) refl (leb (length (encode to ps)) room) refl e
      by_reading (fault f) r e = never (unread f) e

  -- a set that can be converted becomes the canonical bytes of its list
  pub converts : (set : List ℕ) (room : ℕ) → Bytes set → (c : Convertible set room) → convert_to from to set room ≡ converted (encode to c.list)
  unfolding convert_to rewritten
  converts set room all_bytes c =
      let encoded = was_encoded from set c.list all_bytes c.reads in
      let room-enough : leb (length (encode to c.list)) room ≡ true = le-leb (length (encode to c.list)) room (omega (arith, same_length from to c.list, ap length encoded.0, c.enough)) in
      rw (c.reads, c.kinds, room-enough)

module _ (from to : Edition) (set : List ℕ) (all_bytes : Bytes set) where
  -- what is read is as long in any edition
  pub length_other : (ps : List Patch) → read_set from set ≡ patches ps → length (encode to ps) ≡ length set
  length_other ps r = same_length from to ps ∙ sym (ap length (was_encoded from set ps all_bytes r).0)

  -- it succeeds exactly where the set is read, no value is of a kind that is missing, and there is room
  pub converts_exactly : (room : ℕ) → ((bs : List ℕ) × (convert_to from to set room ≡ converted bs)) ↔ Convertible from to set room
  converts_exactly room = (there, λ c. (encode to c.list, converts from to set room all_bytes c))
    where
      there : ((bs : List ℕ) × (convert_to from to set room ≡ converted bs)) → Convertible from to set room
      there s =
          let c = conversion from to set room s.0 all_bytes s.1 in
          record { list = c.list; reads = c.reads; kinds = c.kinds; enough = omega (arith, ap length c.before, ap length c.after, same_length from to c.list, c.enough) }

  module _ (room : ℕ) (bs : List ℕ) (e : convert_to from to set room ≡ converted bs) where
    done : Conversion from to set room bs
    done = conversion from to set room bs all_bytes e

    -- what comes out is read in the other edition as what went in is read in its own
    pub same_list : read_set to bs ≡ read_set from set
    same_list = ap (read_set to) done.after ∙ reads_back to done.list (fits_other from to done.list done.fits done.kinds) ∙ sym done.reads

    -- as many bytes
    pub converted_length : length bs ≡ length set
    converted_length = ap length done.after ∙ same_length from to done.list ∙ sym (ap length done.before)

    -- but for the last letter of the heading they are the same
    pub one_letter : bs ≡ take 30 set ++ (edition_digit to ∷ drop 31 set)
    one_letter = done.after ∙ letter_changed from to done.list ∙ ap (λ (l : List ℕ). take 30 l ++ (edition_digit to ∷ drop 31 l)) (sym done.before)

    -- converted back it is the set
    pub there_and_back : (room' : ℕ) → length set ≤ room' → convert_to to from bs room' ≡ converted set
    unfolding convert_to rewritten
    there_and_back room' enough =
        let known = fits_kinds from done.list done.fits in
        let room-enough : leb (length (encode from done.list)) room' ≡ true = le-leb (length (encode from done.list)) room' (omega (arith, ap length done.before)) in
        rw (same_list ∙ done.reads, known, room-enough) (ap converted (sym done.before))

-- ---- the two editions

pub other_other : (ed : Edition) → other_edition (other_edition ed) ≡ ed
unfolding other_edition
other_other v1 = refl
other_other v2 = refl

-- a kind is among more kinds too
among_more : (l m : List ℕ) (k : ℕ) → any (eqb k) l ≡ true → any (eqb k) (l ++ m) ≡ true
among_more [] m k e = absurd (false≢true e)
among_more (x ∷ l) m k e = go (eqb k x) e (among_more l m k)
  where
    go : (t : Bool) → (t || any (eqb k) l) ≡ true → (any (eqb k) l ≡ true → any (eqb k) (l ++ m) ≡ true) → (t || any (eqb k) (l ++ m)) ≡ true
    go true e f = refl
    go false e f = f e

-- the second edition has the kinds of the first
more_kinds : (ps : List Patch) → all_kinds v1 ps ≡ true → all_kinds v2 ps ≡ true
unfolding all_kinds has_kind kinds added_kinds
more_kinds ps h = values_both (kind_in v1) (kind_in v1) (kind_in v2) (λ v a b. among_more (kinds v1) (added_kinds v2) (kind_of v) a) ps h h

-- every set of the first edition that is read is converted, given room
pub first_converts : (set : List ℕ) (ps : List Patch) → Bytes set → read_set v1 set ≡ patches ps → (room : ℕ) → length set ≤ room → convert v1 set room ≡ converted (encode v2 ps)
unfolding convert other_edition
first_converts set ps all_bytes r room enough =
    let fits = (was_encoded v1 set ps all_bytes r).1 in
    converts v1 v2 set room all_bytes (record { list = ps; reads = r; kinds = more_kinds ps (fits_kinds v1 ps fits); enough = enough })

-- the first edition has every kind but scores
kinds_but_scores : (v : Value) → kind_in v1 v ≡ not (is_score v)
unfolding is_score kind_of has_kind kinds added_kinds
kinds_but_scores (quad q) = refl
kinds_but_scores (signed z) = refl
kinds_but_scores (text t) = refl
kinds_but_scores (unsigned x) = refl
kinds_but_scores (score n) = refl

first_kinds : (ps : List Patch) → all_kinds v1 ps ≡ without_scores ps
unfolding all_kinds without_scores
first_kinds ps =
    let same : kind_in v1 ≡ (λ (v : Value). not (is_score v)) = λ i v. kinds_but_scores v i in
    ap (λ (test : Value → Bool). all_values test ps) same

-- a set of the second edition that is read is converted where no score occurs, given room
pub second_converts : (set : List ℕ) (ps : List Patch) → Bytes set → read_set v2 set ≡ patches ps → without_scores ps ≡ true → (room : ℕ) → length set ≤ room → convert v2 set room ≡ converted (encode v1 ps)
unfolding convert other_edition
second_converts set ps all_bytes r none room enough =
    converts v2 v1 set room all_bytes (record { list = ps; reads = r; kinds = first_kinds ps ∙ none; enough = enough })

-- and is 18 where one does, whatever the room
pub scores_refused : (set : List ℕ) (ps : List Patch) → read_set v2 set ≡ patches ps → without_scores ps ≡ false → (room : ℕ) → convert v2 set room ≡ refused kind_missing
unfolding convert other_edition convert_to rewritten
scores_refused set ps r some room = rw (r, first_kinds ps ∙ some)

-- An encoding and a reader of one type belong together: the reader gives back what was encoded, with any rest untouched, and reads nothing
-- else. One law for each way of putting readers together.
use Prim.Native.Nat.{ℕ, zero, suc, ◌+◌, ◌-◌, ◌^◌, ◌≤◌, ◌<◌}
use Rattle.std.proofs.Math.Path.{◌≡◌, refl, sym, ap, ap₂}
use Rattle.std.proofs.Common.{◌∙◌, subst, arith, le-leb, leb-true, leb-false, eq-eqb, eqb-true, take-append-drop, length-append, length-drop, drop_of_length-le, take_at, drop_at, drop-drop, length-take-le}
use mathlib.Core.List.{List, [], ◌∷◌, ◌++◌, append_assoc, flat_map}
use Rattle.std.specs.Prelude.{Bool, true, false, take, drop, leb, eqb, if◌then◌else◌}
use Rattle.std.proofs.Math.ListN.{length}
use Rattle.spec_lists.specs.Lists.{All}
use Rattle.spec_lists.specs.Bytes.{Bytes, number_of, little_endian}
use Rattle.spec_lists.proofs.BytesLaws.{bytes_take, bytes_drop, bytes_right, length_little_endian, number_of_little_endian, little_endian_number_of, number_of_lt}
use Rattle.spec_patch.specs.Reader.{Fault, malformed, Result, read, refused, Reader, onward, followed, mapped, pair, checked, or_tag, no_tag, many, nothing, byte, bytes, number, literal}

-- p reads what e encodes of the good values, and nothing else
pub record Codec {A : Type 0} (e : A → List ℕ) (Good : A → Type 0) (p : Reader A) : Type 0 where
  pub back : (a : A) → Good a → (rest : List ℕ) → p (e a ++ rest) ≡ read a rest
  pub only : {bs : List ℕ} → Bytes bs → (a : A) (rest : List ℕ) → p bs ≡ read a rest → Good a × (bs ≡ e a ++ rest)

-- a refusal is no reading
pub never : {A : Type 0} {C : Type 0} {f : Fault} {a : A} {rest : List ℕ} → ◌≡◌ {A = Result A} (refused f) (read a rest) → C
never e = absurd (let z : ◌≡◌ {A = ℕ} 0 1 = cc in omega arith)

-- ---- what is read first, where the whole was read

module _ {A B : Type 0} where
  pub record Onward (r : Result A) (f : A → Reader B) (b : B) (rest : List ℕ) : Type 0 where
    pub a : A
    pub mid : List ℕ
    pub first : r ≡ read a mid
    pub next : f a mid ≡ read b rest

  pub onward_read : (r : Result A) (f : A → Reader B) (b : B) (rest : List ℕ) → onward r f ≡ read b rest → Onward r f b rest
  onward_read (read a mid) f b rest e = record { a = a; mid = mid; first = refl; next = e }
  onward_read (refused c) f b rest e = never e

-- a test that decides between a reading and a fault
module _ {A : Type 0} where
  pub record Passed (t : Bool) (r : Result A) (a : A) (rest : List ℕ) : Type 0 where
    pub passed : t ≡ true
    pub result : r ≡ read a rest

  pub if_read : (t : Bool) (r : Result A) (f : Fault) (a : A) (rest : List ℕ) → (if t then r else refused f) ≡ read a rest → Passed t r a rest
  if_read true r f a rest e = record { passed = refl; result = e }
  if_read false r f a rest e = never e

-- ---- the leaves

pub nothing_codec : Codec (λ (u : Unit {0}). []) (λ (u : Unit {0}). Unit {0}) nothing
nothing_codec = record { back = λ u h rest. refl; only = λ h u rest e. (tt, (cc)) }

pub byte_codec : Codec (λ (b : ℕ). b ∷ []) (λ (b : ℕ). b < 256) byte
byte_codec = record { back = λ b h rest. refl; only = λ h b rest e. byte_only _ h b rest e }
  where
    byte_only : (bs : List ℕ) → Bytes bs → (b : ℕ) (rest : List ℕ) → byte bs ≡ read b rest → (b < 256) × (bs ≡ b ∷ rest)
    byte_only [] h b rest e = never e
    byte_only (x ∷ bs) h b rest e = let same : x ≡ b = cc e in (rw (← same) h.0, cc e)

-- exactly n bytes, taken for what `make` gives of them
module _ {A : Type 0} (n : ℕ) (make : List ℕ → A) where
  front : (l rest : List ℕ) → length l ≡ n
      → (if leb n (length (l ++ rest)) then read (make (take n (l ++ rest))) (drop n (l ++ rest)) else refused malformed) ≡ read (make l) rest
  front l rest h =
      rw (le-leb n (length (l ++ rest)) (omega (arith, length-append l rest)), take_at l rest n h, drop_at l rest n h)

  record Cut (bs : List ℕ) (a : A) (rest : List ℕ) : Type 0 where
    enough : n ≤ length bs
    value_is : make (take n bs) ≡ a
    rest_is : drop n bs ≡ rest

  cut : (bs : List ℕ) (a : A) (rest : List ℕ) → (if leb n (length bs) then read (make (take n bs)) (drop n bs) else refused malformed) ≡ read a rest → Cut bs a rest
  cut bs a rest e =
      let p = if_read (leb n (length bs)) (read (make (take n bs)) (drop n bs)) malformed a rest e in
      let r : ◌≡◌ {A = Result A} (read (make (take n bs)) (drop n bs)) (read a rest) = p.result in
      record { enough = leb-true n (length bs) p.passed; value_is = cc r; rest_is = cc r }

-- as many bytes as were asked for
pub bytes_long : (n : ℕ) (bs l rest : List ℕ) → bytes n bs ≡ read l rest → length l ≡ n
bytes_long n bs l rest e =
    let t = cut n (λ x. x) bs l rest e in
    ap length (sym t.value_is) ∙ length-take-le n bs t.enough

pub bytes_codec : (n : ℕ) → Codec (λ (l : List ℕ). l) (λ (l : List ℕ). length l ≡ n) (bytes n)
bytes_codec n = record {
  back = λ l h rest. front n (λ x. x) l rest h;
  only = λ {bs} h l rest e.
      let t = cut n (λ x. x) bs l rest e in (
        bytes_long n bs l rest e,
        sym (take-append-drop n bs) ∙ ap₂ (λ (x y : List ℕ). x ++ y) t.value_is t.rest_is,
      );
}

pub number_codec : (n : ℕ) → Codec (little_endian n) (λ (x : ℕ). x < 256 ^ n) (number n)
number_codec n = record {
  back = λ x h rest.
      front n number_of (little_endian n x) rest (length_little_endian n x) ∙ ap (λ (y : ℕ). read y rest) (number_of_little_endian n x h);
  only = λ {bs} h x rest e.
      let t = cut n number_of bs x rest e in
      let first = bytes_take n bs h in
      let long = length-take-le n bs t.enough in (
        rw (← t.value_is) (number_of_lt n (take n bs) first (omega arith)),
        sym (take-append-drop n bs)
            ∙ ap₂ (λ (x y : List ℕ). x ++ y)
            (sym (little_endian_number_of (take n bs) first) ∙ ap₂ little_endian long t.value_is)
            t.rest_is,
      );
}

-- ---- the ways of putting them together

-- another type for the same values: f and g undo each other on the good ones
module _ {A B : Type 0} {e : A → List ℕ} {Good : A → Type 0} {p : Reader A} (codec : Codec e Good p) where
  pub iso_codec : (f : A → B) (g : B → A) (Good' : B → Type 0) → ((b : B) → Good' b → Good (g b)) → ((a : A) → Good a → Good' (f a)) → ((b : B) → Good' b → f (g b) ≡ b) → ((a : A) → Good a → g (f a) ≡ a) → Codec (λ (b : B). e (g b)) Good' (mapped f p)
  iso_codec f g Good' to from fg gf = record {
    back = λ b h rest.
        ap (λ (r : Result A). onward r (λ a rest'. read (f a) rest')) (codec.back (g b) (to b h) rest)
        ∙ ap (λ (y : B). read y rest) (fg b h);
    only = λ {bs} h b rest q.
        let t = onward_read (p bs) (λ a rest'. read (f a) rest') b rest q in
        let o = codec.only h t.a t.mid t.first in
        let fa : f t.a ≡ b = cc t.next in
        let m : t.mid ≡ rest = cc t.next in (
          subst Good' fa (from t.a o.0),
          o.1 ∙ ap₂ (λ (x y : List ℕ). x ++ y) (ap e (sym (gf t.a o.0) ∙ ap g fa)) m,
        );
  }

module _ {A : Type 0} {e : A → List ℕ} {Good : A → Type 0} {p : Reader A} (codec : Codec e Good p) where
  -- a test on what was read
  pub checked_codec : (ok : A → Bool) (f : Fault) → Codec e (λ (a : A). Good a × (ok a ≡ true)) (checked ok f p)
  checked_codec ok f = record {
    back = λ a h rest. rw (codec.back a h.0 rest, h.1);
    only = λ {bs} h a rest q.
        let t = onward_read (p bs) (λ a rest'. if ok a then read a rest' else refused f) a rest q in
        let o = codec.only h t.a t.mid t.first in
        let d = if_read (ok t.a) (read t.a t.mid) f a rest t.next in
        let same : t.a ≡ a = cc d.result in
        let m : t.mid ≡ rest = cc d.result in
        ((subst Good same o.0, ap ok (sym same) ∙ d.passed), o.1 ∙ ap₂ (λ (x y : List ℕ). x ++ y) (ap e same) m);
  }

  -- the good values told in other words
  pub good_codec : (Good' : A → Type 0) → ((a : A) → Good' a → Good a) → ((a : A) → Good a → Good' a) → Codec e Good' p
  good_codec Good' to from = record {
    back = λ a h rest. codec.back a (to a h) rest;
    only = λ {bs} h a rest q. let o = codec.only h a rest q in (from a o.0, o.1);
  }

-- a header, and after it what the header says
module _ {A B : Type 0} {eA : A → List ℕ} {GoodA : A → Type 0} {p : Reader A} (codec : Codec eA GoodA p) where
  pub followed_codec : (eB : B → List ℕ) (GoodB : B → Type 0) (key : B → A) (q : A → Reader B) → ((a : A) → Codec eB (λ (b : B). GoodB b × (key b ≡ a)) (q a)) → Codec (λ (b : B). eA (key b) ++ eB b) (λ (b : B). GoodA (key b) × GoodB b) (followed p q)
  followed_codec eB GoodB key q follow = record {
    back = λ b h rest.
        ap (followed p q) (append_assoc (eA (key b)) (eB b) rest)
        ∙ ap (λ (r : Result A). onward r q) (codec.back (key b) h.0 (eB b ++ rest))
        ∙ (follow (key b)).back b (h.1, refl) rest;
    only = λ {bs} h b rest r.
        let t = onward_read (p bs) q b rest r in
        let o = codec.only h t.a t.mid t.first in
        let n = (follow t.a).only (bytes_right (eA t.a) t.mid (subst Bytes o.1 h)) b rest t.next in (
          (subst GoodA (sym n.0.1) o.0, n.0.0),
          o.1
              ∙ ap₂ (λ (x y : List ℕ). x ++ y) (ap eA (sym n.0.1)) n.1
              ∙ sym (append_assoc (eA (key b)) (eB b) rest),
        );
  }

module _ {A B : Type 0} {eA : A → List ℕ} {GoodA : A → Type 0} {p : Reader A} (first : Codec eA GoodA p) where
  pub pair_codec : {eB : B → List ℕ} {GoodB : B → Type 0} {q : Reader B} → Codec eB GoodB q → Codec (λ (t : A × B). eA t.0 ++ eB t.1) (λ (t : A × B). GoodA t.0 × GoodB t.1) (pair p q)
  pair_codec {eB} {GoodB} {q} second = record {
    back = λ t h rest.
        ap (pair p q) (append_assoc (eA t.0) (eB t.1) rest)
        ∙ rw (first.back t.0 h.0 (eB t.1 ++ rest), second.back t.1 h.1 rest);
    only = λ {bs} h t rest r.
        let u = onward_read (p bs) (λ a. followed q (λ b rest'. read (a, b) rest')) t rest r in
        let v = onward_read (q u.mid) (λ b rest'. read (u.a, b) rest') t rest u.next in
        let o = first.only h u.a u.mid u.first in
        let n = second.only (bytes_right (eA u.a) u.mid (subst Bytes o.1 h)) v.a v.mid v.first in
        let same : ◌≡◌ {A = A × B} (u.a, v.a) t = cc v.next in
        let m : v.mid ≡ rest = cc v.next in (
          subst (λ (x : A × B). GoodA x.0 × GoodB x.1) same (o.0, n.0),
          o.1
              ∙ ap (λ (x : List ℕ). eA u.a ++ x) n.1
              ∙ sym (append_assoc (eA u.a) (eB v.a) v.mid)
              ∙ ap₂ (λ (x : A × B) (y : List ℕ). (eA x.0 ++ eB x.1) ++ y) same m,
        );
  }

-- ---- a tag, and what follows it

-- the readers after each tag read nothing but what is encoded behind the tag
module _ {B : Type 0} (e : B → List ℕ) (Good : B → Type 0) where
  abbrev pub OnlyAfter : (ℕ → Reader B) → Type 0
  OnlyAfter f = (t : ℕ) (bs : List ℕ) → Bytes bs → (b : B) (rest : List ℕ) → f t bs ≡ read b rest → Good b × (t ∷ bs ≡ e b ++ rest)

  pub only_none : OnlyAfter no_tag
  only_none t bs h b rest q = never q

module _ {A B : Type 0} {eA : A → List ℕ} {GoodA : A → Type 0} {p : Reader A} (codec : Codec eA GoodA p) where
  -- a constructor, of what is read after its tag
  pub back_after : (make : A → B) (a : A) → GoodA a → (rest : List ℕ) → mapped make p (eA a ++ rest) ≡ read (make a) rest
  back_after make a h rest = ap (λ (r : Result A). onward r (λ x rest'. read (make x) rest')) (codec.back a h rest)

  pub only_tag : (k : ℕ) (make : A → B) (e : B → List ℕ) (Good : B → Type 0) (f : ℕ → Reader B) → ((a : A) → GoodA a → Good (make a)) → ((a : A) → k ∷ eA a ≡ e (make a)) → OnlyAfter e Good f → OnlyAfter e Good (or_tag k (mapped make p) f)
  only_tag k make e Good f good spelt others t bs h b rest = pick (eqb t k) refl
    where
      pick : (x : Bool) → eqb t k ≡ x → (if x then mapped make p bs else f t bs) ≡ read b rest → Good b × (t ∷ bs ≡ e b ++ rest)
      pick false is q = others t bs h b rest q
      pick true is q =
          let u = onward_read (p bs) (λ a rest'. read (make a) rest') b rest q in
          let o = codec.only h u.a u.mid u.first in
          let same : make u.a ≡ b = cc u.next in
          let m : u.mid ≡ rest = cc u.next in (
            subst Good same (good u.a o.0),
            ap₂ (λ (x : ℕ) (y : List ℕ). x ∷ y) (eqb-true t k is) (o.1 ∙ ap (λ (y : List ℕ). eA u.a ++ y) m)
                ∙ ap (λ (y : List ℕ). y ++ rest) (spelt u.a ∙ ap e same),
          )

tag_only : {B : Type 0} (f : ℕ → Reader B) (e : B → List ℕ) (Good : B → Type 0) → OnlyAfter e Good f → (bs : List ℕ) → Bytes bs → (b : B) (rest : List ℕ) → followed byte f bs ≡ read b rest → Good b × (bs ≡ e b ++ rest)
tag_only f e Good only [] h b rest q = never q
tag_only f e Good only (t ∷ bs) h b rest q = only t bs h.1 b rest q

module _ {B : Type 0} where
  pub tag_codec : (f : ℕ → Reader B) (e : B → List ℕ) (Good : B → Type 0) → ((b : B) → Good b → (rest : List ℕ) → followed byte f (e b ++ rest) ≡ read b rest) → OnlyAfter e Good f → Codec e Good (followed byte f)
  tag_codec f e Good back only = record { back = back; only = λ {bs} h b rest q. tag_only f e Good only bs h b rest q }

-- ---- n values, one after the other

module _ {A : Type 0} {e : A → List ℕ} {Good : A → Type 0} {p : Reader A} (codec : Codec e Good p) where
  pub many_back : (l : List A) → All Good l → (rest : List ℕ) → many (length l) p (flat_map e l ++ rest) ≡ read l rest
  unfolding many flat_map
  many_back [] h rest = refl
  many_back (a ∷ more) h rest =
      rw (append_assoc (e a) (flat_map e more) rest, codec.back a h.0 (flat_map e more ++ rest), many_back more h.1 rest)

  many_only : (n : ℕ) {bs : List ℕ} → Bytes bs → (l : List A) (rest : List ℕ) → many n p bs ≡ read l rest → (All Good l × (length l ≡ n)) × (bs ≡ flat_map e l ++ rest)
  unfolding many flat_map
  many_only zero h l rest q =
      let none : ◌≡◌ {A = List A} [] l = cc in
      ((subst (All Good) none tt, ap length (sym none)), (cc) ∙ ap (λ (x : List A). flat_map e x ++ rest) none)
  many_only (suc n) {bs} h l rest q =
      let u = onward_read (p bs) (λ a mid. onward (many n p mid) (λ more rest'. read (a ∷ more) rest')) l rest q in
      let v = onward_read (many n p u.mid) (λ more rest'. read (u.a ∷ more) rest') l rest u.next in
      let o = codec.only h u.a u.mid u.first in
      let w = many_only n (bytes_right (e u.a) u.mid (subst Bytes o.1 h)) v.a v.mid v.first in
      let same : u.a ∷ v.a ≡ l = cc v.next in
      let m : v.mid ≡ rest = cc v.next in (
        (subst (All Good) same (o.0, w.0.0), ap length (sym same) ∙ ap suc w.0.1),
        o.1
            ∙ ap (λ (x : List ℕ). e u.a ++ x) w.1
            ∙ sym (append_assoc (e u.a) (flat_map e v.a) v.mid)
            ∙ ap₂ (λ (x : List A) (y : List ℕ). flat_map e x ++ y) same m,
      )

  pub many_codec : (n : ℕ) → Codec (flat_map e) (λ (l : List A). All Good l × (length l ≡ n)) (many n p)
  many_codec n = record {
    back = λ l h rest. ap (λ (k : ℕ). many k p (flat_map e l ++ rest)) (sym h.1) ∙ many_back l h.0 rest;
    only = λ {bs} h l rest q. many_only n h l rest q;
  }

-- ---- just these bytes

literal_back : (l rest : List ℕ) → literal l (l ++ rest) ≡ read tt rest
unfolding literal
literal_back [] rest = refl
literal_back (x ∷ xs) rest = rw (eq-eqb x x refl) (literal_back xs rest)

literal_only : (l bs : List ℕ) (u : Unit {0}) (rest : List ℕ) → literal l bs ≡ read u rest → bs ≡ l ++ rest
unfolding literal
literal_only [] bs u rest q = cc
literal_only (x ∷ xs) [] u rest q = never q
literal_only (x ∷ xs) (b ∷ bs) u rest q =
    let p = if_read (eqb b x) (literal xs bs) malformed u rest q in
    ap₂ (λ (y : ℕ) (l : List ℕ). y ∷ l) (eqb-true b x p.passed) (literal_only xs bs u rest p.result)

pub literal_codec : (l : List ℕ) → Codec (λ (u : Unit {0}). l) (λ (u : Unit {0}). Unit {0}) (literal l)
literal_codec l = record {
  back = λ u h rest. literal_back l rest;
  only = λ {bs} h u rest q. (tt, literal_only l bs u rest q);
}

-- ---- what follows of any codec

module _ {A : Type 0} {e : A → List ℕ} {Good : A → Type 0} {p : Reader A} (codec : Codec e Good p) where
  -- the bytes that were taken are those that are encoded
  pub codec_taken : {bs : List ℕ} → Bytes bs → (a : A) (rest : List ℕ) → p bs ≡ read a rest → take (length bs - length rest) bs ≡ e a
  codec_taken {bs} h a rest q =
      let o = codec.only h a rest q in
      let long : length bs ≡ length (e a) + length rest = ap length o.1 ∙ length-append (e a) rest in
      ap (take (length bs - length rest)) o.1 ∙ take_at (e a) rest (length bs - length rest) (omega arith)

  -- two good values that are encoded alike are the same
  pub injective : (a b : A) → Good a → Good b → e a ≡ e b → a ≡ b
  injective a b ha hb q =
      let one = codec.back a ha [] in
      let two = codec.back b hb [] in
      cc (ap (λ (l : List ℕ). p (l ++ [])) q)

  -- what is left is the end of the list, wherever in it the reading began
  pub suffix : (l : List ℕ) (at : ℕ) → Bytes l → (a : A) (rest : List ℕ) → p (drop at l) ≡ read a rest → drop (length l - length rest) l ≡ rest
  suffix l at h a rest q = pick (leb at (length l)) refl
    where
      is : drop at l ≡ e a ++ rest
      is = (codec.only (bytes_drop at l h) a rest q).1

      long : length l - at ≡ length (e a) + length rest
      long = sym (length-drop at l) ∙ ap length is ∙ length-append (e a) rest

      after : drop (at + length (e a)) l ≡ rest
      after = sym (drop-drop (length (e a)) at l) ∙ ap (drop (length (e a))) is ∙ drop_at (e a) rest (length (e a)) refl

      pick : (t : Bool) → leb at (length l) ≡ t → drop (length l - length rest) l ≡ rest
      pick true t =
          let inside : at ≤ length l = leb-true at (length l) t in
          let next : length l - length rest ≡ at + length (e a) = omega (arith, long) in
          ap (λ (j : ℕ). drop j l) next ∙ after
      pick false t =
          let outside : length l < at = leb-false at (length l) t in
          let here : length l ≤ length l - length rest = omega (arith, long) in
          let there : length l ≤ at + length (e a) = omega arith in
          drop_of_length-le l here ∙ sym (drop_of_length-le l there) ∙ after

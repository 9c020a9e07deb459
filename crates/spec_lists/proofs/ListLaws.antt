-- Laws of tests, and of properties of all elements.
use Rattle.std.specs.Prelude.{◌≡◌, refl, Bool, true, false, ◌&&◌, ◌||◌, ℕ, zero, suc, ◌-◌, ◌<◌, eqb, length, get_or, take, drop, if◌then◌else◌}
use Rattle.std.proofs.Common.{sym, ap, ◌∙◌, subst, ⊎_elim, arith, length-drop, drop_at, take_all, eqb-true, eq-eqb, ne_eqb}
use mathlib.Core.List.{List, [], ◌∷◌, ◌++◌, append_assoc, map, flat_map, reverse, reverse-cons, reverse-reverse}
use mathlib.Core.List.Memᴰ
use mathlib.Core.List.{Memᴰ}
use Rattle.std.proofs.lemmas.List.{length-map}
use Rattle.spec_lists.specs.Lists.{all, any, equal_lists, is_empty, All}

-- ---- tests

pub and_left : (a b : Bool) → (a && b) ≡ true → a ≡ true
and_left true b e = refl
and_left false b e = e

pub and_right : (a b : Bool) → (a && b) ≡ true → b ≡ true
and_right true b e = e
and_right false b e = cc

pub and_both : (a b : Bool) → a ≡ true → b ≡ true → (a && b) ≡ true
and_both a b e f = rw (e, f) refl

pub or_left : (a b : Bool) → (a || b) ≡ false → a ≡ false
or_left true b e = e
or_left false b e = refl

pub or_right : (a b : Bool) → (a || b) ≡ false → b ≡ false
or_right true b e = cc
or_right false b e = e

-- the second holds where the first does not
pub or_second : (a b : Bool) → (a || b) ≡ true → a ≡ false → b ≡ true
or_second true b e f = cc
or_second false b e f = e

pub or_true : (a b : Bool) → b ≡ true → (a || b) ≡ true
or_true true b e = refl
or_true false b e = e

-- what holds of both branches holds of the choice
pub if_cases : {A : Type 0} (P : A → Type 0) (t : Bool) (a b : A) → (t ≡ true → P a) → (t ≡ false → P b) → P (if t then a else b)
if_cases P true a b h k = h refl
if_cases P false a b h k = k refl

-- ---- lists

pub flat_map_append : {A B : Type 0} (f : A → List B) (a b : List A) → flat_map f (a ++ b) ≡ flat_map f a ++ flat_map f b
unfolding flat_map
flat_map_append f [] b = refl
flat_map_append f (x ∷ a) b = ap (λ l. f x ++ l) (flat_map_append f a b) ∙ sym (append_assoc (f x) (flat_map f a) (flat_map f b))

pub is_empty_true : {A : Type 0} (l : List A) → is_empty l ≡ true → l ≡ []
is_empty_true [] e = refl
is_empty_true (x ∷ l) e = cc

-- a count of 0 tells an empty list
pub empty_count : {A : Type 0} (l : List A) → eqb (length l) 0 ≡ is_empty l
empty_count [] = refl
empty_count (x ∷ l) = ne_eqb (length (x ∷ l)) 0 (omega arith)

-- what stands behind two parts
pub drop_behind : {A : Type 0} (n : ℕ) (a b c : List A) → length (a ++ b) ≡ n → drop n (a ++ (b ++ c)) ≡ c
drop_behind n a b c long = ap (drop n) (sym (append_assoc a b c)) ∙ drop_at (a ++ b) c n long

-- the length of a list, by that of a map over it
pub unmapped : (X Y : Type 0) (f : X → Y) (l : List X) (n : ℕ) → length (map f l) ≡ n → length l ≡ n
unmapped X Y f l n e = sym (length-map l f) ∙ e

module _ {A B : Type 0} (f : A → B) where
  pub map_take : (i : ℕ) (l : List A) → map f (take i l) ≡ take i (map f l)
  map_take zero l = refl
  map_take (suc i) [] = refl
  map_take (suc i) (x ∷ l) = ap (λ m. f x ∷ m) (map_take i l)

  pub map_drop : (i : ℕ) (l : List A) → map f (drop i l) ≡ drop i (map f l)
  map_drop zero l = refl
  map_drop (suc i) [] = refl
  map_drop (suc i) (x ∷ l) = map_drop i l

-- two lists that pass a test of their elements are equal, if two elements that pass it are
pub equal_lists_equal : {A : Type 0} (test : A → A → Bool) → ((x y : A) → test x y ≡ true → x ≡ y) → (a b : List A) → equal_lists test a b ≡ true → a ≡ b
equal_lists_equal test sound [] [] e = refl
equal_lists_equal test sound [] (y ∷ b) e = cc
equal_lists_equal test sound (x ∷ a) [] e = cc
equal_lists_equal test sound (x ∷ a) (y ∷ b) e =
    let heads : x ≡ y = sound x y (and_left (test x y) _ e) in
    let tails : a ≡ b = equal_lists_equal test sound a b (and_right (test x y) _ e) in
    cc

pub equal_lists_true : (a b : List ℕ) → equal_lists eqb a b ≡ true → a ≡ b
equal_lists_true = equal_lists_equal eqb eqb-true

-- a test of the images is a test of the elements
pub any_map : {A B : Type 0} (f : A → B) (test : B → Bool) (own : A → Bool) → ((x : A) → test (f x) ≡ own x) → (l : List A) → any test (map f l) ≡ any own l
any_map f test own same [] = refl
any_map f test own same (x ∷ l) = rw (same x, any_map f test own same l)

-- what stands from an index on, as the code lends it
pub lent_from_lem : {A : Type 0} (l : List A) (k : ℕ) → take (length l - k) (drop k l) ≡ drop k l
lent_from_lem l k = take_all (length l - k) (drop k l) (omega (arith, length-drop k l))

-- ---- properties of all elements

pub all_left : {A : Type 0} (P : A → Type 0) (a b : List A) → All P (a ++ b) → All P a
all_left P [] b h = tt
all_left P (x ∷ a) b h = (h.0, all_left P a b h.1)

pub all_right : {A : Type 0} (P : A → Type 0) (a b : List A) → All P (a ++ b) → All P b
all_right P [] b h = h
all_right P (x ∷ a) b h = all_right P a b h.1

pub all_append : {A : Type 0} (P : A → Type 0) (a b : List A) → All P a → All P b → All P (a ++ b)
all_append P [] b h k = k
all_append P (x ∷ a) b h k = (h.0, all_append P a b h.1 k)

pub all_map : {A : Type 0} (P Q : A → Type 0) → ((a : A) → P a → Q a) → (l : List A) → All P l → All Q l
all_map P Q f [] h = tt
all_map P Q f (x ∷ l) h = (f x h.0, all_map P Q f l h.1)

-- a test of every element, and a property that follows from it
pub all_of_test : {A : Type 0} (P Q : A → Type 0) (test : A → Bool) → ((a : A) → P a → test a ≡ true → Q a) → (l : List A) → All P l → all test l ≡ true → All Q l
all_of_test P Q test f [] h e = tt
all_of_test P Q test f (x ∷ l) h e =
    (f x h.0 (and_left (test x) _ e), all_of_test P Q test f l h.1 (and_right (test x) _ e))

pub all_test_append : {A : Type 0} (test : A → Bool) (a b : List A) → all test (a ++ b) ≡ (all test a && all test b)
all_test_append test [] b = refl
all_test_append test (x ∷ a) b = go (test x) (all_test_append test a b)
  where
    go : (t : Bool) → all test (a ++ b) ≡ (all test a && all test b) → (t && all test (a ++ b)) ≡ ((t && all test a) && all test b)
    go true e = e
    go false e = refl

pub test_of_all : {A : Type 0} (P : A → Type 0) (test : A → Bool) → ((a : A) → P a → test a ≡ true) → (l : List A) → All P l → all test l ≡ true
test_of_all P test f [] h = refl
test_of_all P test f (x ∷ l) h = rw (f x h.0) (test_of_all P test f l h.1)

-- ---- cases

-- a test holds or it does not
pub test_cases : {G : Type 0} (t : Bool) → (t ≡ true → G) → (t ≡ false → G) → G
test_cases true holds fails = holds refl
test_cases false holds fails = fails refl

-- ---- members

pub all_member : {A : Type 0} (P : A → Type 0) {x : A} (l : List A) → All P l → Memᴰ x l → P x
all_member {A = A} P [] h x3 = elim x3 [ ]
all_member P (y ∷ l) h (Memᴰ.head e) = rw e h.0
all_member P (y ∷ l) h (Memᴰ.tail m) = all_member P l h.1 m

-- a list without members is empty
pub no_members : {A : Type 0} (l : List A) → ((x : A) → Memᴰ x l → ⊥) → l ≡ []
no_members [] h = refl
no_members (x ∷ l) h = absurd (h x (Memᴰ.head refl))

-- some element passes the test exactly if a member does
pub any_member : {A : Type 0} (test : A → Bool) (l : List A) → any test l ≡ true → (x : A) × Memᴰ x l × (test x ≡ true)
any_member test [] e = let z : ◌≡◌ {A = ℕ} 0 1 = cc in absurd (omega arith)
any_member {A} test (x ∷ l) e = go (test x) refl (any_member test l) e
  where
    go : (t : Bool) → test x ≡ t → (any test l ≡ true → (y : A) × Memᴰ y l × (test y ≡ true)) → (t || any test l) ≡ true → (y : A) × Memᴰ y (x ∷ l) × (test y ≡ true)
    go true f ih e = (x, Memᴰ.head refl, f)
    go false f ih e = let found = ih e in (found.0, Memᴰ.tail found.1, found.2)

pub member_any : {A : Type 0} (test : A → Bool) {x : A} (l : List A) → Memᴰ x l → test x ≡ true → any test l ≡ true
member_any {A = A} test [] x3 h = elim x3 [ ]
member_any test (y ∷ l) (Memᴰ.head e) h = rw (ap test (sym e) ∙ h)
member_any test (y ∷ l) (Memᴰ.tail m) h = or_true (test y) (any test l) (member_any test l m h)

-- a reversed list has the same members
pub reverse_member : {A : Type 0} {x : A} (l : List A) → Memᴰ x (reverse l) → Memᴰ x l
reverse_member [] m = m
reverse_member {x} (y ∷ l) m =
    ⊎_elim (λ (n : Memᴰ x (reverse l)). Memᴰ.tail (reverse_member l n)) (λ (n : Memᴰ x (y ∷ [])). Memᴰ.head (Memᴰ.eq_of_singleton n))
    (Memᴰ.append_cases (reverse l) (subst (Memᴰ x) (reverse-cons y l) m))

pub member_reverse : {A : Type 0} {x : A} (l : List A) → Memᴰ x l → Memᴰ x (reverse l)
member_reverse {x} l m = reverse_member (reverse l) (subst (Memᴰ x) (sym (reverse-reverse l)) m)

pub get_or_member : {A : Type 0} (l : List A) (i : ℕ) (d : A) → i < length l → Memᴰ (get_or l i d) l
get_or_member [] i d h = absurd (omega arith)
get_or_member (x ∷ l) zero d h = Memᴰ.head refl
get_or_member (x ∷ l) (suc i) d h = Memᴰ.tail (get_or_member l i d (omega arith))

-- two maps that agree on a list agree at its members
pub map_member : {A B : Type 0} (f g : A → B) {x : A} (l : List A) → map f l ≡ map g l → Memᴰ x l → f x ≡ g x
map_member {A = A} {B = B} f g [] h x3 = elim x3 [ ]
map_member f g (y ∷ l) h (Memᴰ.head e) = cc
map_member f g (y ∷ l) h (Memᴰ.tail m) = map_member f g l (cc) m

-- a list of numbers passes the test against itself
pub equal_lists_refl : (a : List ℕ) → equal_lists eqb a a ≡ true
equal_lists_refl [] = refl
equal_lists_refl (x ∷ a) = rw (eq-eqb x x refl) (equal_lists_refl a)

pub all_take : {A : Type 0} (P : A → Type 0) (n : ℕ) (l : List A) → All P l → All P (take n l)
all_take P zero l h = tt
all_take P (suc n) [] h = tt
all_take P (suc n) (x ∷ l) h = (h.0, all_take P n l h.1)

pub all_drop : {A : Type 0} (P : A → Type 0) (n : ℕ) (l : List A) → All P l → All P (drop n l)
all_drop P zero l h = h
all_drop P (suc n) [] h = tt
all_drop P (suc n) (x ∷ l) h = all_drop P n l h.1

-- a test of some element is one of the reversed list
pub any_reverse : {A : Type 0} (test : A → Bool) (l : List A) → any test (reverse l) ≡ any test l
any_reverse test l =
    alike (any test (reverse l)) (any test l)
    (λ e. let w = any_member test (reverse l) e in member_any test l (reverse_member l w.1) w.2)
    (λ e. let w = any_member test l e in member_any test (reverse l) (member_reverse l w.1) w.2)
  where
    alike : (a b : Bool) → (a ≡ true → b ≡ true) → (b ≡ true → a ≡ true) → a ≡ b
    alike true b f g = sym (f refl)
    alike false true f g = g refl
    alike false false f g = refl

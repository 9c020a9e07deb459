-- Edits at the first match, and by a key, under a map that keeps what the test or the key looks at; properties of all images.
use Rattle.std.specs.Prelude.{ℕ, ◌≡◌, Bool, true}
use Rattle.std.proofs.Math.Path.{refl}
use Rattle.std.proofs.Common.{ap}
use mathlib.Core.List.{List, [], ◌∷◌, map}
use Rattle.std.proofs.Math.Option
use Rattle.spec_lists.specs.Lists.{All}
use Rattle.spec_lists.proofs.ListLaws.{test_cases}
use Rattle.spec_lists.specs.Order.{lex_less, upsert, Ascending}
use Rattle.spec_projection.specs.FirstMatch.{find_first, insert_before_first, replace_first, remove_first}

module _ {A B : Type 0} (f : A → B) where
  -- a test of the images is a test of the elements
  module _ (test : B → Bool) (own : A → Bool) (same : (x : A) → test (f x) ≡ own x) where
    pub find_first_map : (l : List A) → find_first test (map f l) ≡ Option.map f (find_first own l)
    unfolding find_first
    find_first_map [] = refl
    find_first_map (x ∷ l) = test_cases (own x) (λ e. rw (same x, e)) (λ e. rw (same x, e) (find_first_map l))

    pub insert_before_first_map : (a : A) (l : List A) → insert_before_first test (f a) (map f l) ≡ map f (insert_before_first own a l)
    unfolding insert_before_first
    insert_before_first_map a [] = refl
    insert_before_first_map a (x ∷ l) = test_cases (own x) (λ e. rw (same x, e)) (λ e. rw (same x, e) (ap (λ m. f x ∷ m) (insert_before_first_map a l)))

    pub replace_first_map : (a : A) (l : List A) → replace_first test (f a) (map f l) ≡ map f (replace_first own a l)
    unfolding replace_first
    replace_first_map a [] = refl
    replace_first_map a (x ∷ l) = test_cases (own x) (λ e. rw (same x, e)) (λ e. rw (same x, e) (ap (λ m. f x ∷ m) (replace_first_map a l)))

    pub remove_first_map : (l : List A) → remove_first test (map f l) ≡ map f (remove_first own l)
    unfolding remove_first
    remove_first_map [] = refl
    remove_first_map (x ∷ l) = test_cases (own x) (λ e. rw (same x, e)) (λ e. rw (same x, e) (ap (λ m. f x ∷ m) (remove_first_map l)))

  -- a key of the images is a key of the elements
  pub upsert_map : (key : B → List ℕ) (own : A → List ℕ) → ((x : A) → key (f x) ≡ own x) → (a : A) (l : List A) → upsert key (f a) (map f l) ≡ map f (upsert own a l)
  unfolding upsert
  upsert_map key own same a [] = refl
  upsert_map key own same a (x ∷ l) = test_cases (lex_less (own a) (own x))
      (λ s. rw (same a, same x, s))
      (λ s. test_cases (lex_less (own x) (own a))
      (λ t. rw (same a, same x, s, t) (ap (λ m. f x ∷ m) (upsert_map key own same a l)))
      (λ t. rw (same a, same x, s, t)))

  pub all_image : (P : A → Type 0) (Q : B → Type 0) → ((a : A) → P a → Q (f a)) → (l : List A) → All P l → All Q (map f l)
  all_image P Q each [] h = tt
  all_image P Q each (x ∷ l) h = (each x h.0, all_image P Q each l h.1)

  pub ascending_map : (key : B → List ℕ) (own : A → List ℕ) → ((x : A) → key (f x) ≡ own x) → (l : List A) → Ascending own l → Ascending key (map f l)
  ascending_map key own same [] h = tt
  ascending_map key own same (x ∷ l) h =
      (all_image (λ y. lex_less (own x) (own y) ≡ true) (λ y. lex_less (key (f x)) (key y) ≡ true) (λ y less. rw (same x, same y) less) l h.0, ascending_map key own same l h.1)

-- Tables of words: a field is sought among them, and its number tells the meaning.
use Rattle.std.specs.Prelude.{ℕ, suc, ◌≤◌, ◌≡◌, refl, List, [], ◌∷◌, map, eqb, length, get_or, if◌then◌else◌}
use Rattle.std.proofs.Common.{arith}
use Rattle.spec_lists.specs.Lists.{equal_lists}
use Rattle.spec_lists.proofs.ListLaws.{test_cases}
use Rattle.spec_replay.specs.Script.{other, Arguments, given, Row, by_word}

-- how many words stand before the field; all of them where it is none
unfoldable pub index_of : List ℕ → List (List ℕ) → ℕ
index_of field [] = 0
index_of field (w ∷ ws) = if equal_lists eqb w field then 0 else suc (index_of field ws)

abbrev pub words_of : {A : Type 0} → List (Row A) → List (List ℕ)
words_of rows = map (λ r. r.word) rows

-- what each row goes on with; behind the last row there is any other line
abbrev pub word_row_at : {A : Type 0} → (A → Arguments) → List (Row A) → ℕ → Arguments
word_row_at next rows k = get_or (map (λ r. next r.meaning) rows) k (λ fs. other)

pub index_of_most : (field : List ℕ) (ws : List (List ℕ)) → index_of field ws ≤ length ws
unfolding index_of
index_of_most field [] = omega arith
index_of_most field (w ∷ ws) = test_cases (equal_lists eqb w field) (λ t. rw t (omega arith)) (λ t. rw t (omega (arith, index_of_most field ws)))

-- a table is looked up by the number of its word: one law for every table
pub by_index : {A : Type 0} (next : A → Arguments) (rows : List (Row A)) (field : List ℕ) (fs : List (List ℕ))
    → given (by_word rows field) (λ a. next a fs) ≡ word_row_at next rows (index_of field (words_of rows)) fs
unfolding index_of by_word given
by_index next [] field fs = refl
by_index next (r ∷ rows) field fs = test_cases (equal_lists eqb r.word field) (λ t. rw t) (λ t. rw t (by_index next rows field fs))

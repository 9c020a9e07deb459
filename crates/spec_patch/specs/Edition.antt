-- What an edition of the format fixes: its letters in the heading, and the value kinds that it has. All else is laid out alike.
use Rattle.std.specs.Prelude.{ℕ, Bool, List, [], ◌∷◌, eqb}
use Rattle.spec_lists.specs.Lists.{any}

-- the edition of 01, and that of 02, 'Job 13', which has match scores
pub data Edition : Type 0 where
  v1 v2 : Edition

-- the digit that the heading ends in
unfoldable pub edition_digit : Edition → ℕ
edition_digit v1 = 49
edition_digit v2 = 50

-- the 27 letters UI_DNA2_PROJECTION_PATCH_V, and the digit
unfoldable pub letters : Edition → List ℕ
letters ed =
    85 ∷ 73 ∷ 95 ∷ 68 ∷ 78 ∷ 65 ∷ 50 ∷ 95 ∷ 80 ∷ 82 ∷ 79 ∷ 74 ∷ 69 ∷ 67 ∷ 84 ∷ 73 ∷ 79 ∷ 78 ∷ 95 ∷ 80 ∷ 65 ∷ 84 ∷ 67 ∷ 72 ∷ 95 ∷ 86
    ∷ edition_digit ed ∷ []

-- the kinds that an edition has beside those of 01: 5 is a score
unfoldable pub added_kinds : Edition → List ℕ
added_kinds v1 = []
added_kinds v2 = 5 ∷ []

-- the value kinds 1 to 4, and those added
unfoldable pub kinds : Edition → List ℕ
kinds ed = 1 ∷ 2 ∷ 3 ∷ 4 ∷ added_kinds ed

-- the edition has values of the kind
unfoldable pub has_kind : Edition → ℕ → Bool
has_kind ed kind = any (eqb kind) (kinds ed)

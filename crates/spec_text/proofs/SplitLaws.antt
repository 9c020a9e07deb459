-- A text in the syntax splits into the octets of its first character and a text in the syntax, and so it is an encoding.
use Rattle.std.specs.Prelude.{ℕ, ◌≡◌, refl, Bool, true, false, if◌then◌else◌}
use Rattle.std.proofs.Common.{sym, ◌∙◌, ap, ap₂, subst, inl, inr, ⊎_elim}
use Rattle.std.proofs.lemmas.Bool.{false≢true}
use mathlib.Core.List.{List, [], ◌∷◌, ◌++◌, flat_map}
use Rattle.spec_text.specs.Scalars.{encode_scalars, Encoded}
use Rattle.spec_text.specs.Syntax.{Range, inside, sequences, After, expects, refused, lead, is_utf8_after, is_utf8}
use Rattle.spec_text.proofs.SyntaxLaws.{inside_true, refused_stays}
use Rattle.spec_text.proofs.SequenceLaws.{Matches, AnyMatches}
use Rattle.spec_text.proofs.ScalarLaws.{Decoded, decode}

-- the octets that are expected, and then an encoding
record Split (rs : List Range) (text : List ℕ) : Type 0 where
  front : List ℕ
  rest : List ℕ
  matches : Matches rs front
  joined : front ++ rest ≡ text
  encoded : Encoded rest

abbrev SplitAfter : After → List ℕ → Type 0
SplitAfter (expects rs) text = Split rs text
SplitAfter refused text = ⊥

-- a first octet and those that it leads to, and then an encoding
record FirstCharacter (rows : List (List Range)) (b : ℕ) (text : List ℕ) : Type 0 where
  front : List ℕ
  rest : List ℕ
  matches : AnyMatches rows (b ∷ front)
  joined : front ++ rest ≡ text
  encoded : Encoded rest

first_later : (row : List Range) (rows : List (List Range)) (b : ℕ) (bs : List ℕ) → FirstCharacter rows b bs → FirstCharacter (row ∷ rows) b bs
first_later row rows b bs f = record { front = f.front; rest = f.rest; matches = inr f.matches; joined = f.joined; encoded = f.encoded }

first_of : (rows : List (List Range)) (b : ℕ) (bs : List ℕ) → SplitAfter (lead rows b) bs → FirstCharacter rows b bs
first_of [] b bs s = absurd s
first_of ([] ∷ rows) b bs s = first_later [] rows b bs (first_of rows b bs s)
first_of ((r ∷ rs) ∷ rows) b bs s = go (inside r b) refl (first_of rows b bs) s
  where
    go : (t : Bool) → inside r b ≡ t → (SplitAfter (lead rows b) bs → FirstCharacter rows b bs) → SplitAfter (if t then expects rs else lead rows b) bs
        → FirstCharacter ((r ∷ rs) ∷ rows) b bs
    go true e later s =
        let h = inside_true r b e in
        record { front = s.front; rest = s.rest; matches = inl (h.0, h.1, s.matches); joined = s.joined; encoded = s.encoded }
    go false e later s = first_later (r ∷ rs) rows b bs (later s)

-- a character, and then an encoding
split_character : (b : ℕ) (bs : List ℕ) → FirstCharacter sequences b bs → Split [] (b ∷ bs)
unfolding encode_scalars flat_map
split_character b bs f =
    let d : Decoded (b ∷ f.front) = decode (b ∷ f.front) f.matches in
    record {
      front = [];
      rest = b ∷ bs;
      matches = tt;
      joined = refl;
      encoded =
          record {
            scalars = d.scalar ∷ f.encoded.scalars;
            all_scalar = (d.is_scalar, f.encoded.all_scalar);
            is_encoding = ap₂ ◌++◌ d.is_encoding f.encoded.is_encoding ∙ ap (λ (l : List ℕ). b ∷ l) f.joined;
          };
    }

-- an octet that was expected, with the rest of its character
split_part : (r : Range) (rs : List Range) (b : ℕ) (bs : List ℕ) → FirstCharacter ((r ∷ rs) ∷ []) b bs → Split (r ∷ rs) (b ∷ bs)
split_part r rs b bs f =
    record { front = b ∷ f.front; rest = f.rest; matches = ⊎_elim (λ m. m) absurd f.matches; joined = ap (λ (l : List ℕ). b ∷ l) f.joined; encoded = f.encoded }

split : (text : List ℕ) (a : After) → is_utf8_after a text ≡ true → SplitAfter a text
unfolding encode_scalars flat_map
split [] (expects []) e =
    record { front = []; rest = []; matches = tt; joined = refl; encoded = record { scalars = []; all_scalar = tt; is_encoding = refl } }
split [] (expects (r ∷ rs)) e = absurd (false≢true e)
split [] refused e = absurd (false≢true e)
split (b ∷ bs) (expects []) e = split_character b bs (first_of sequences b bs (split bs (lead sequences b) e))
split (b ∷ bs) (expects (r ∷ rs)) e = split_part r rs b bs (first_of ((r ∷ rs) ∷ []) b bs (split bs (lead ((r ∷ rs) ∷ []) b) e))
split (b ∷ bs) refused e = absurd (false≢true (sym (refused_stays bs) ∙ e))

pub utf8_encoded : (text : List ℕ) → is_utf8 text ≡ true → Encoded text
utf8_encoded text e =
    let s = split text (expects []) e in
    whole_rest s.front s.matches s.joined s.encoded
  where
    whole_rest : (front : List ℕ) {rest : List ℕ} → Matches [] front → front ++ rest ≡ text → Encoded rest → Encoded text
    whole_rest [] m j e = subst Encoded j e
    whole_rest (x ∷ xs) m j e = absurd m

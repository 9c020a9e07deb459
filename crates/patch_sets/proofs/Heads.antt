-- The heading of a set, and ids of an envelope, as the code finds them.
use Prim.Native.Nat.{ℕ}
use mathlib.Core.Path.{◌≡◌, refl, sym, ap, ◌∙◌}
use mathlib.Core.Bool.{Bool, true, false}
use mathlib.Core.List.{List, [], ◌∷◌, ◌++◌, append_assoc}
use mathlib.Core.Option.{none, some}
use native.Mathlib.Omega.{arith}
use lib.Dec.{eqb, lit<}
use lib.ListN.{length, drop}
use lib.Seq.{drop_at, drop-drop}
use Rattle.std.specs.Prelude.{if◌then◌else◌}
use Rattle.spec_lists.specs.Bytes.{Bytes}
use Rattle.spec_lists.proofs.BytesLaws.{length_little_endian}
use Rattle.spec_patch.specs.Edition.{Edition, letters}
use Rattle.spec_patch.specs.Encode.{u32, heading}
use Rattle.spec_patch.specs.Reader.{Fault, Result, read, refused, malformed, literal}
use Rattle.spec_patch.proofs.Codec.{never, literal_codec}
use Rattle.bytes_wire.specs.Read.{first_number}
use Rattle.bytes_wire.proofs.ReadLaws.{number_at, number_bytes, first_of_little_endian}
use Rattle.bytes_wire.specs.Prefix.{starts_with}
use Rattle.bytes_wire.proofs.PrefixLaws.{starts_true, starts_append}

-- ---- the heading

literal_malformed : (xs bs : List ℕ) (f : Fault) → literal xs bs ≡ refused f → f ≡ malformed
unfolding literal
literal_malformed [] bs f q = never (sym q)
literal_malformed (x ∷ xs) [] f q = cc
literal_malformed (x ∷ xs) (b ∷ bs) f q = pick (eqb b x) (literal_malformed xs bs f) q
  where
    pick : (t : Bool) → (literal xs bs ≡ refused f → f ≡ malformed) → (if t then literal xs bs else refused malformed) ≡ refused f → f ≡ malformed
    pick true rest e = rest e
    pick false rest e = cc

-- the u32 in front of the letters
abbrev pub letter_count : Edition → ℕ
letter_count ed = length (letters ed)

module _ (ed : Edition) (set : List ℕ) (all : Bytes set) where
  pub not_heading : ((rest : List ℕ) → set ≡ heading ed ++ rest → ⊥) → literal (heading ed) set ≡ refused malformed
  not_heading h = pick (literal (heading ed) set) refl
    where
      pick : (r : Result (Unit {0})) → literal (heading ed) set ≡ r → literal (heading ed) set ≡ refused malformed
      pick (read u rest) is = absurd (h rest ((literal_codec (heading ed)).only all u rest is).1)
      pick (refused f) is = is ∙ ap refused (literal_malformed (heading ed) set f is)

  apart : (rest : List ℕ) → set ≡ heading ed ++ rest → set ≡ u32 (letter_count ed) ++ (letters ed ++ rest)
  unfolding heading
  apart rest e = e ∙ append_assoc (u32 (letter_count ed)) (letters ed) rest

  number_then : (rest : List ℕ) → set ≡ heading ed ++ rest → first_number 4 set ≡ some (letter_count ed)
  unfolding letters
  number_then rest e = ap (first_number 4) (apart rest e) ∙ first_of_little_endian 4 (letter_count ed) (letters ed ++ rest) (lit< tt)

  letters_then : (rest : List ℕ) → set ≡ heading ed ++ rest → starts_with (letters ed) (drop 4 set) ≡ true
  letters_then rest e =
      ap (λ (l : List ℕ). starts_with (letters ed) (drop 4 l)) (apart rest e)
      ∙ ap (starts_with (letters ed)) (drop_at (u32 (letter_count ed)) (letters ed ++ rest) 4 (length_little_endian 4 (letter_count ed)))
      ∙ starts_append (letters ed) rest

  pub no_number : none ≡ first_number 4 set → literal (heading ed) set ≡ refused malformed
  no_number e = not_heading (λ rest h. let z : ◌≡◌ {A = ℕ} 0 1 = cc (e, number_then rest h) in omega arith)

  pub other_number : (x : ℕ) → some x ≡ first_number 4 set → (x ≡ letter_count ed → ⊥) → literal (heading ed) set ≡ refused malformed
  other_number x e d = not_heading (λ rest h. d (cc (e ∙ number_then rest h)))

  pub other_letters : starts_with (letters ed) (drop 4 set) ≡ false → literal (heading ed) set ≡ refused malformed
  other_letters e = not_heading (λ rest h. let z : ◌≡◌ {A = ℕ} 0 1 = cc (e, letters_then rest h) in omega arith)

  pub heading_there : some (letter_count ed) ≡ first_number 4 set → starts_with (letters ed) (drop 4 set) ≡ true → literal (heading ed) set ≡ read tt (drop 31 set)
  unfolding heading letters
  heading_there e s =
      let number = number_bytes set 0 4 (number_at set 0 4 (letter_count ed) (sym e)) all in
      let there = starts_true (letters ed) (drop 4 set) s in
      let whole : set ≡ heading ed ++ drop 31 set =
      number
      ∙ ap (λ (l : List ℕ). u32 (letter_count ed) ++ l) (there ∙ ap (λ (l : List ℕ). letters ed ++ l) (drop-drop (letter_count ed) 4 set))
      ∙ sym (append_assoc (u32 (letter_count ed)) (letters ed) (drop 31 set)) in
      ap (literal (heading ed)) whole ∙ (literal_codec (heading ed)).back tt tt (drop 31 set)

-- Where the first line ends.
use Rattle.std.specs.Prelude.{ℕ, suc, ◌+◌, ◌≤◌, ◌<◌, ◌≡◌, refl, List, [], ◌∷◌, length, get_or, drop}
use Rattle.std.proofs.Common.{add-one, arith, drop_of_length-le}
use Rattle.std.proofs.Math.Seq.{drop-cons}
use borrow.Author.Tests.{eq-eqb, ne_eqb}
use Rattle.spec_replay.specs.Lines.{newline, prepend, split}
use Rattle.script_reader.specs.Lines.{first_part, first_script_line}

-- a byte before the first part is one before its first byte
pub first_prepend : (b : ℕ) (parts : List (List ℕ)) → first_part (prepend b parts) ≡ b ∷ first_part parts
unfolding first_part prepend
first_prepend b [] = refl
first_prepend b (part ∷ parts) = refl

module _ (bytes : List ℕ) (i : ℕ) where
  pub line_at_newline : i < length bytes → get_or bytes i 0 ≡ newline → length (first_script_line (drop i bytes)) ≡ 0
  unfolding first_script_line first_part split
  line_at_newline h e = rw (drop-cons bytes i 0 h, eq-eqb (get_or bytes i 0) newline e)

  pub line_past_byte : i < length bytes → (get_or bytes i 0 ≡ newline → ⊥) → length (first_script_line (drop i bytes)) ≡ 1 + length (first_script_line (drop (i + 1) bytes))
  unfolding first_script_line split
  line_past_byte h e = rw (add-one i, drop-cons bytes i 0 h, ne_eqb (get_or bytes i 0) newline e, first_prepend (get_or bytes i 0) (split newline (drop (suc i) bytes))) (omega arith)

  pub line_at_end : length bytes ≤ i → length (first_script_line (drop i bytes)) ≡ 0
  unfolding first_script_line first_part split
  line_at_end h = rw (drop_of_length-le bytes h)

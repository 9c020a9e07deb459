-- The library's search for an LF finds the end of the first line.
use Rattle.std.specs.Prelude.{ℕ, ◌-◌, ◌≡◌, refl, Bool, true, false, List, [], eqb, nat_lt, not, length, drop, Option, Some, None, ◌==◌}
use Rattle.std.proofs.Common.{Bor, sym, ◌∙◌, arith, take_all, length-drop, drop_of_length-le}
use Rattle.std.specs.Option.{unwrap_or}
use Rattle.std.specs.List.{position, position_or_len}
use Rattle.std.specs.Slice.{IsGetRangeResult}
use Rattle.std.proofs.lemmas.List.Recursion.{is_position_or_len}
use Rattle.std.proofs.lemmas.List.Sums.{prefix_len-le-length}
use borrow.Author.Tests.{ltb-false}
use Rattle.spec_lists.proofs.ListLaws.{test_cases}
use Rattle.spec_replay.specs.Lines.{newline, split}
use Rattle.script_reader.specs.Lines.{first_part, first_script_line}
use Rattle.script_reader.specs.LineLaws.{first_prepend}

line_place : (l : List ℕ) → length (first_script_line l) ≡ position_or_len (λ b. b == newline) l
unfolding first_script_line first_part split
line_place l =
    is_position_or_len (λ s. length (first_script_line s)) (λ b. b == newline) refl
    (λ b s. test_cases (eqb b newline) (λ t. rw t) (λ t. rw (t, first_prepend b (split newline s)) (omega arith))) l

pub line_or_length : (l : List ℕ) → unwrap_or (position (λ b. b == newline) l) (length l) ≡ length (first_script_line l)
line_or_length l = go (nat_lt (length (first_script_line l)) (length l)) refl
  where
    go : (t : Bool) → nat_lt (length (first_script_line l)) (length l) ≡ t → unwrap_or (position (λ b. b == newline) l) (length l) ≡ length (first_script_line l)
    go true e = rw (← line_place l, e)
    go false e = rw (← line_place l, e) (omega (arith, ltb-false (length (first_script_line l)) (length l) e, line_place l, prefix_len-le-length (λ b. not (b == newline)) l))

-- what the library hands out from an index on, or nothing
pub rest_from : (l : List ℕ) (from : ℕ) (empty : Bor (List ℕ)) → empty.now ≡ [] → (r : Option (Bor (List ℕ))) → IsGetRangeResult l from (length l) r
    → (unwrap_or r empty).now ≡ drop from l
rest_from l from empty none (Some x) h = h.0.2 ∙ take_all (length l - from) (drop from l) (omega (arith, length-drop from l))
rest_from l from empty none None h = none ∙ sym (drop_of_length-le l (omega (arith, h.0)))

-- The line of a print and its bytes, by what it answered.
use Prim.Native.Nat.{ℕ, ◌+◌, ◌-◌, ◌≤◌}
use mathlib.Core.Path.{◌≡◌, refl, sym, ap, ◌∙◌}
use mathlib.Core.Bool.{Bool, true, false}
use mathlib.Core.List.{List, [], ◌∷◌, ◌++◌}
use native.Mathlib.Omega.{arith}
use borrow.Author.Tests.{leb-false, le-leb, lt-leb}
use lib.Dec.{leb}
use lib.ListN.{length, take, drop, length-append}
use lib.Seq.{take_at}
use Rattle.std.specs.Prelude.{if◌then◌else◌, Result, Ok, Err}
use Rattle.spec_decimal.specs.Decimal.{decimal}
use Rattle.spec_listing.specs.Listing.{fields}
use Rattle.spec_replay.specs.Answers.{print_lines}
use Rattle.bytes_wire.specs.Write.{has_room, overwrite}
use Rattle.bytes_wire.proofs.WriteLaws.{room_true, has_room_lem, overwrite_in_place}
use Rattle.panel_print.specs.Answers.{print_number, print_answer}
use Rattle.panel_print.specs.declared.PrintRefusal.{PrintRefusal}
use Rattle.panel_print.specs.declared.PrintRefusal.TheVariants.{OutputTooShort}
use Rattle.script_answers.specs.PrintTold.{PrintTold}

abbrev paper : List ℕ → List ℕ
paper print = (79 ∷ fields (decimal 0 ∷ decimal (length print) ∷ [])) ++ print

-- ---- by the room

pub print_fitting : (room : ℕ) (print : List ℕ) → length print ≤ room → paper print ≡ print_lines room print
unfolding print_lines
print_fitting room print h = rw (le-leb (length print) room h)

print_over : (room : ℕ) (print : List ℕ) → leb (length print) room ≡ false → 79 ∷ fields (decimal 14 ∷ []) ≡ print_lines room print
unfolding print_lines
print_over room print h = rw h

-- ---- by the answer

module _ (lent print : List ℕ) (answer : Result ℕ PrintRefusal) (output : List ℕ) (h : PrintTold lent print answer output) where
  module _ (n : ℕ) (is : answer ≡ Ok n) where
    all_wrote : (n ≡ length print) × (has_room lent 0 (length print) ≡ true)
    unfolding print_answer
    all_wrote = go (has_room lent 0 (length print)) refl (sym is ∙ h.answered)
      where
        go : (t : Bool) → has_room lent 0 (length print) ≡ t → Ok n ≡ (if t then Ok (length print) else Err OutputTooShort) → (n ≡ length print) × (has_room lent 0 (length print) ≡ true)
        go true e q = (cc, e)
        go false e q = absurd (let z : ◌≡◌ {A = ℕ} 0 1 = cc in omega arith)

    left : output ≡ print ++ drop (0 + length print) lent
    left = h.written ∙ overwrite_in_place lent 0 print (length print) refl all_wrote.1

    pub print_wrote_within : n ≤ length output
    print_wrote_within = omega (arith, all_wrote.0, ap length left, length-append print (drop (0 + length print) lent))

    pub print_wrote_lines : paper (take (n - 0) (drop 0 output)) ≡ print_lines (length lent) print
    print_wrote_lines =
        let same : n - 0 ≡ length print = omega (arith, all_wrote.0) in
        ap paper (ap (take (n - 0)) left ∙ take_at print (drop (0 + length print) lent) (n - 0) (sym same))
        ∙ print_fitting (length lent) print (omega (arith, room_true lent 0 (length print) all_wrote.1))

  pub print_refused_lines : (f : PrintRefusal) → answer ≡ Err f → 79 ∷ fields (decimal (print_number f) ∷ []) ≡ print_lines (length lent) print
  unfolding print_answer has_room
  print_refused_lines OutputTooShort is = go (has_room lent 0 (length print)) refl (sym is ∙ h.answered)
    where
      go : (t : Bool) → has_room lent 0 (length print) ≡ t → Err OutputTooShort ≡ (if t then Ok (length print) else Err OutputTooShort) → 79 ∷ fields (decimal 14 ∷ []) ≡ print_lines (length lent) print
      go true e q = absurd (let z : ◌≡◌ {A = ℕ} 0 1 = cc in omega arith)
      go false e q =
          let over = leb-false (0 + length print) (length lent) e in
          print_over (length lent) print (lt-leb (length print) (length lent) (omega (arith, over)))

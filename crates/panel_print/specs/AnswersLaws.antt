-- A print that was made is written whole, or not at all.
use Rattle.std.specs.Prelude.{ℕ, ◌+◌, ◌≤◌, ◌≡◌, refl, length, take, drop, Option, Some, None, Result, Ok, Err}
use Rattle.std.proofs.Common.{sym, ◌∙◌, arith, length-take}
use Rattle.std.proofs.Math.Path.{ap}
use Rattle.std.proofs.Math.Bool.{true, false}
use mathlib.Core.List.{List}
use Rattle.panel_print.specs.declared.PrintRefusal.{PrintRefusal}
use Rattle.bytes_wire.specs.Write.{has_room, overwrite}
use Rattle.bytes_wire.proofs.WriteLaws.{overwrite_refused, drop_past_overwrite}
use Rattle.bytes_printer.specs.Prints.{Prints}
use Rattle.bytes_printer.proofs.PrintsLaws.{whole_printed}
use Rattle.panel_print.specs.declared.PrintRefusal.TheVariants.{OutputTooShort}
use Rattle.panel_print.specs.Answers.{PrintedWhole, print_answer}

-- what fits is printed whole
pub printed_whole : {before print text : List ℕ} {end : Option ℕ} → Prints before (Some 0) print text end → length print ≤ length before → PrintedWhole text end print
printed_whole p h = let w = whole_printed p h in record { position = w.0; bytes = w.1 }

-- ---- where printing ended

module _ {text : List ℕ} {end : Option ℕ} {print : List ℕ} (h : PrintedWhole text end print) where
  pub some_end : end ≡ None → ⊥
  some_end e = let z : ◌≡◌ {A = ℕ} 0 1 = cc h.position in omega arith

  module _ (n : ℕ) (e : end ≡ Some n) where
    pub ends_at : n ≡ length print
    ends_at = cc h.position

    pub ends_in_text : n ≤ length text
    ends_in_text = omega (arith, ends_at, ap length h.bytes, length-take (length print) text)

    pub whole_part : (m : ℕ) → m ≡ n → take m text ≡ print
    whole_part m same = ap (λ (k : ℕ). take k text) (same ∙ ends_at) ∙ h.bytes

-- ---- what was written

-- what the contract says of an output
abbrev pub PrintLeft : (out print after : List ℕ) → Result ℕ PrintRefusal → Type 0
PrintLeft out print after r = (r ≡ print_answer out print) × (after ≡ overwrite out 0 print)

module _ (out part after : List ℕ) (is : after ≡ overwrite out 0 part) where
  pub print_written : has_room out 0 (length part) ≡ true → (print : List ℕ) → part ≡ print → (n : ℕ) → n ≡ length print → PrintLeft out print after (Ok n)
  unfolding print_answer
  print_written room print same n long =
      let fits : has_room out 0 (length print) ≡ true = ap (λ (l : List ℕ). has_room out 0 (length l)) (sym same) ∙ room in
      (ap Ok long ∙ rw fits, is ∙ ap (overwrite out 0) same)

  pub print_refused : has_room out 0 (length part) ≡ false → (print : List ℕ) → part ≡ print → PrintLeft out print after (Err OutputTooShort)
  unfolding print_answer
  print_refused full print same =
      let none : has_room out 0 (length print) ≡ false = ap (λ (l : List ℕ). has_room out 0 (length l)) (sym same) ∙ full in
      (rw none, is ∙ ap (overwrite out 0) same)

  pub behind_stays : (n : ℕ) → length part ≡ n → has_room out 0 (length part) ≡ true → drop n after ≡ drop n out
  behind_stays n long room =
      let none_before : 0 + length part ≡ n = omega arith in
      ap (drop n) is ∙ rw (sym none_before) (drop_past_overwrite out 0 part (length part) refl room)

  pub all_stays : has_room out 0 (length part) ≡ false → after ≡ out
  all_stays full = is ∙ overwrite_refused out 0 part (length part) refl full

-- What the call that prints answers, and what holds of it whatever the table holds: 02, Job 10, 'Checks'.
use Rattle.std.specs.Prelude.{ℕ, ◌≡◌, List, length, take, drop, if◌then◌else◌, Option, Some, Result, Ok, Err}
use Rattle.bytes_wire.specs.Write.{has_room}
use Rattle.panel_print.specs.declared.PrintRefusal.{PrintRefusal}
use Rattle.panel_print.specs.declared.PrintRefusal.TheVariants.{OutputTooShort}

-- a print stands at the start of a text, and its printing ended behind it
pub record PrintedWhole (text : List ℕ) (end : Option ℕ) (print : List ℕ) : Type 0 where
  pub position : end ≡ Some (length print)
  pub bytes : take (length print) text ≡ print

-- 14 for an output that is too short
abbrev pub print_number : PrintRefusal → ℕ
print_number OutputTooShort = 14

-- how many bytes the print has, if the output has as many
unfoldable pub print_answer : (out print : List ℕ) → (Result ℕ PrintRefusal)
print_answer out print = if has_room out 0 (length print) then Ok (length print) else Err OutputTooShort

-- bytes behind what was written stay, and a refusal leaves every byte
abbrev pub OthersKept : List ℕ → List ℕ → Result ℕ PrintRefusal → Type 0
OthersKept before after (Ok n) = drop n after ≡ drop n before
OthersKept before after (Err f) = after ≡ before

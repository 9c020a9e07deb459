-- `script_answers::turns::print_turn` meets its contract: the word none, or the sender and its number.
use Prim.Native.Nat.{ℕ}
use mathlib.Core.Path.{sym, ap}
use mathlib.Core.List.{List}
use borrow.Author.Rules.{rules}
use Rattle.spec_listing.specs.Listing.{fields}
use Rattle.spec_replay.specs.Answers.{turn_line}
use Rattle.bytes_printer.proofs.PrintsLaws.{◌⨾◌, prints_same}
use Rattle.session_turns.specs.declared.Turn.{Turn}
use Rattle.std.specs.Prelude.{Option}
use Rattle.session_turns.specs.Runs.{turn_answer_of}
use Rattle.script_answers.proofs.turns.print_turn.Goals as goal

abbrev line : Option Turn → List ℕ
line x = turn_line (turn_answer_of x)

pub returns-in-None : goal.returns-in-None
unfolding turn_line fields
returns-in-None c =
    prints_same (sym (ap line c.in-None.is)) (c.print_byte-letter.ensures ⨾ c.print_field_bytes-word.ensures ⨾ c.print_newline.ensures)

pub returns-in-Some : goal.returns-in-Some
unfolding turn_line fields
returns-in-Some c =
    prints_same (sym (ap line c.in-Some.is)) (c.print_byte-letter.ensures ⨾ c.print_field_u64-named.ensures ⨾ c.print_field_u64-numbered.ensures ⨾ c.print_newline-in-Some.ensures)

-- `script_answers::fields::print_cursor` meets its contract: a dash, or the number.
use Prim.Native.Nat.{ℕ}
use mathlib.Core.Path.{sym, ap}
use mathlib.Core.List.{List}
use borrow.Author.Rules.{rules}
use Rattle.spec_replay.specs.Answers.{cursor_field}
use Rattle.bytes_printer.specs.Prints.{spaced_field}
use Rattle.bytes_printer.proofs.PrintsLaws.{prints_same}
use Rattle.session_lifecycle.specs.Meaning.{cursor_of}
use Rattle.session_lifecycle.specs.declared.state.ProjectionReplayCursor.{ProjectionReplayCursor}
use Rattle.script_answers.proofs.fields.print_cursor.Goals as goal

abbrev place : ProjectionReplayCursor → List ℕ
place x = spaced_field (cursor_field (cursor_of x))

pub returns-in-Uninitialized : goal.returns-in-Uninitialized
unfolding cursor_field cursor_of
returns-in-Uninitialized c =
    prints_same (sym (ap place c.in-Uninitialized.is)) c.print_field_bytes.ensures

pub returns-in-At : goal.returns-in-At
unfolding cursor_field cursor_of
returns-in-At c =
    prints_same (sym (ap place c.in-At.is)) c.print_field_u64.ensures

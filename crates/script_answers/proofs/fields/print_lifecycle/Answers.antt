-- `script_answers::fields::print_lifecycle` meets its contract: each lifecycle by its word.
use Prim.Native.Nat.{ℕ}
use mathlib.Core.Path.{sym, ap}
use mathlib.Core.List.{List}
use borrow.Author.Rules.{rules}
use Rattle.spec_replay.specs.Answers.{lifecycle_field}
use Rattle.bytes_printer.specs.Prints.{spaced_field}
use Rattle.bytes_printer.proofs.PrintsLaws.{prints_same}
use Rattle.session_lifecycle.specs.Meaning.{lifecycle_of}
use Rattle.session_lifecycle.specs.declared.state.ShellLifecycle.{ShellLifecycle}
use Rattle.script_answers.proofs.fields.print_lifecycle.Goals as goal

abbrev word : ShellLifecycle → List ℕ
word x = spaced_field (lifecycle_field (lifecycle_of x))

pub returns-in-Created : goal.returns-in-Created
unfolding lifecycle_field
returns-in-Created c =
    prints_same (sym (ap word c.in-Created.is)) c.print_field_bytes.ensures

pub returns-in-Active : goal.returns-in-Active
unfolding lifecycle_field
returns-in-Active c =
    prints_same (sym (ap word c.in-Active.is)) c.print_field_bytes-in-Active.ensures

pub returns-in-Suspended : goal.returns-in-Suspended
unfolding lifecycle_field
returns-in-Suspended c =
    prints_same (sym (ap word c.in-Suspended.is)) c.print_field_bytes-in-Suspended.ensures

pub returns-in-Closed : goal.returns-in-Closed
unfolding lifecycle_field
returns-in-Closed c =
    prints_same (sym (ap word c.in-Closed.is)) c.print_field_bytes-in-Closed.ensures

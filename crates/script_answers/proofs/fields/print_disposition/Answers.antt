-- `script_answers::fields::print_disposition` meets its contract: each disposition by its word.
use Prim.Native.Nat.{ℕ}
use mathlib.Core.Path.{sym, ap}
use mathlib.Core.List.{List}
use borrow.Author.Rules.{rules}
use Rattle.spec_replay.specs.Answers.{disposition_field}
use Rattle.bytes_printer.specs.Prints.{spaced_field}
use Rattle.bytes_printer.proofs.PrintsLaws.{prints_same}
use Rattle.session_lifecycle.specs.Meaning.{disposition_means}
use Rattle.session_lifecycle.specs.declared.lifecycle.ShellTransitionDisposition.{ShellTransitionDisposition}
use Rattle.script_answers.proofs.fields.print_disposition.Goals as goal

abbrev word : ShellTransitionDisposition → List ℕ
word x = spaced_field (disposition_field (disposition_means x))

pub returns-in-Applied : goal.returns-in-Applied
unfolding disposition_field disposition_means
returns-in-Applied c =
    prints_same (sym (ap word c.in-Applied.is)) c.print_field_bytes.ensures

pub returns-in-NoChange : goal.returns-in-NoChange
unfolding disposition_field disposition_means
returns-in-NoChange c =
    prints_same (sym (ap word c.in-NoChange.is)) c.print_field_bytes-in-NoChange.ensures

pub returns-in-Rejected : goal.returns-in-Rejected
unfolding disposition_field disposition_means
returns-in-Rejected c =
    prints_same (sym (ap word c.in-Rejected.is)) c.print_field_bytes-in-Rejected.ensures

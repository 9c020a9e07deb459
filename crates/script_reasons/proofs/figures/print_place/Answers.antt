-- `script_reasons::figures::print_place` meets its contract: the index, or the word.
use Prim.Native.Nat.{ℕ}
use mathlib.Core.Path.{sym, ap}
use mathlib.Core.List.{List}
use Rattle.spec_replay.specs.Answers.{place_field}
use Rattle.bytes_printer.specs.Prints.{spaced_field}
use Rattle.bytes_printer.proofs.PrintsLaws.{prints_same}
use Rattle.check_set.specs.declared.check_set.CheckPlace.{CheckPlace}
use Rattle.session_explain.specs.Meaning.{finding_place_of}
use borrow.Author.Rules.{rules}
use Rattle.script_reasons.proofs.figures.print_place.Goals as goal

abbrev word : CheckPlace → List ℕ
word x = spaced_field (place_field (finding_place_of x))

pub returns-in-Patch : goal.returns-in-Patch
unfolding place_field
returns-in-Patch c = prints_same (sym (ap word c.in-Patch.is)) c.print_field_u64.ensures

pub returns-in-Set : goal.returns-in-Set
unfolding place_field
returns-in-Set c = prints_same (sym (ap word c.in-Set.is)) c.print_field_bytes.ensures

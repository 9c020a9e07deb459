-- `script_reasons::figures::print_inside` meets its contract, case by case.
use Prim.Native.Nat.{ℕ}
use mathlib.Core.Path.{sym, ap}
use mathlib.Core.List.{List}
use Rattle.spec_listing.specs.Listing.{fields}
use Rattle.spec_replay.specs.Reasons.{inside_fields}
use Rattle.bytes_printer.proofs.PrintsLaws.{◌⨾◌, prints_same}
use Rattle.patch_locate.specs.Answers.{inside_of}
use Rattle.patch_locate.specs.declared.rules.Inside.{Inside}
use borrow.Author.Rules.{rules}
use Rattle.script_reasons.proofs.figures.print_inside.Goals as goal

abbrev word : Inside → List ℕ
word x = fields (inside_fields (inside_of x))

pub returns-in-Outside : goal.returns-in-Outside
unfolding fields inside_fields
returns-in-Outside c = prints_same (sym (ap word c.in-Outside.is)) (c.print_field_bytes-patch.ensures ⨾ c.print_none.ensures)

pub returns-in-Patch : goal.returns-in-Patch
unfolding fields inside_fields
returns-in-Patch c = prints_same (sym (ap word c.in-Patch.is)) (c.print_field_u64-patch.ensures ⨾ c.print_none-in-Patch.ensures)

pub returns-in-Operation : goal.returns-in-Operation
unfolding fields inside_fields
returns-in-Operation c = prints_same (sym (ap word c.in-Operation.is)) c.print_two.ensures

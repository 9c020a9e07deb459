-- `script_reasons::figures::print_takes` meets its contract, case by case.
use Rattle.std.specs.Prelude as code
use Prim.Native.Nat.{ℕ}
use mathlib.Core.Path.{sym, ap}
use mathlib.Core.List.{List, [], ◌∷◌}
use Rattle.spec_listing.specs.Listing.{fields}
use Rattle.spec_replay.specs.Reasons.{takes_field}
use Rattle.bytes_printer.proofs.PrintsLaws.{◌⨾◌, prints_same}
use Rattle.spec_lists.specs.Options.{optional_of}
use borrow.Author.Rules.{rules}
use Rattle.script_reasons.proofs.figures.print_takes.Goals as goal

abbrev word : code.Option ℕ → List ℕ
word x = fields (takes_field (optional_of x) ∷ [])

pub returns-in-None : goal.returns-in-None
unfolding fields takes_field
returns-in-None c = prints_same (sym (ap word c.in-None.is)) c.print_none.ensures

pub returns-in-Some : goal.returns-in-Some
unfolding fields takes_field
returns-in-Some c = prints_same (sym (ap word c.in-Some.is)) (c.print_field_u64-number.ensures ⨾ c.print_newline.ensures)

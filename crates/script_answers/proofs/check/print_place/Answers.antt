-- `script_answers::check::print_place` meets its contract: the index, or the word.
use mathlib.Core.Path.{sym, ap, ◌∙◌}
use borrow.Author.Rules.{rules}
use Rattle.spec_checks.specs.Findings.{Place}
use Rattle.spec_replay.specs.Answers.{place_field}
use Rattle.bytes_printer.specs.Prints.{spaced_field}
use Rattle.bytes_printer.proofs.PrintsLaws.{prints_same}
use Rattle.script_answers.proofs.Checks.{patch_place, set_place}
use Rattle.script_answers.proofs.check.print_place.Goals as goal

pub returns-in-Patch : goal.returns-in-Patch
returns-in-Patch c =
    λ p is. prints_same (patch_place p _ (sym c.in-Patch.is ∙ is)) c.print_field_u64.ensures

pub returns-in-Set : goal.returns-in-Set
unfolding place_field
returns-in-Set c =
    λ p is. prints_same (sym (ap (λ (x : Place). spaced_field (place_field x)) (set_place p (sym c.in-Set.is ∙ is)))) c.print_field_bytes.ensures

-- `script_answers::dependencies::print_needs` meets its contract: both counts, and as many records.
use native.Mathlib.Omega.{arith}
use borrow.Author.Rules.{rules}
use Rattle.spec_replay.specs.Answers.{verdict_lines}
use Rattle.bytes_printer.proofs.PrintsLaws.{◌⨾◌, ends_within}
use Rattle.script_answers.proofs.dependencies.print_needs.Goals as goal

pub returns-then-most-held : goal.returns-then-most-held
returns-then-most-held c = λ room. absurd (omega (arith, c.if-most-held.true))

pub returns-then-most-held-2 : goal.returns-then-most-held-2
returns-then-most-held-2 c = λ room. absurd (omega (arith, c.if-most-held.false, c.if-most-held-2.true))

pub returns : goal.returns
unfolding verdict_lines
returns c =
    λ room. c.print_verdict-head.ensures ⨾ c.print_keys.ensures room (ends_within c.print_verdict-head.ensures)

-- `script_calls::views::entry_value` meets its contract: the session there is is looked into, and stays.
use mathlib.Core.Path.{refl, ap, ◌∙◌}
use Rattle.bytes_printer.proofs.PrintsLaws.{prints_same}
use Rattle.script_answers.specs.LookupLines.{value_lookup_line, value_looked_up}
use Rattle.script_calls.specs.ReplayHoldsLaws.{asked_there, asked_nowhere, step_goes_on}
use borrow.Author.Rules.{rules}
use Rattle.script_calls.proofs.views.entry_value.Goals as goal

pub returns-then-state : goal.returns-then-state
returns-then-state c = λ m h. asked_there c.args.state m h _ _ _ _ c.if-state.true (λ x held. step_goes_on refl h (prints_same (ap value_lookup_line (c.entry_value-lookup.ensures x held) ∙ value_looked_up _ _) c.print_value-printed.ensures))

pub returns : goal.returns
returns c = λ m h. asked_nowhere c.args.state m h _ _ _ _ c.if-state.false (c.no_session.ensures m h)

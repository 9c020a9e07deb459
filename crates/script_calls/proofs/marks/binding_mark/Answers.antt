-- `script_calls::marks::binding_mark` meets its contract: the session there is is looked into, and stays.
use mathlib.Core.Path.{refl, ap, ◌∙◌}
use Rattle.bytes_printer.proofs.PrintsLaws.{prints_same}
use Rattle.panel_rows.specs.declared.values.ValueLookup.{ValueLookup}
use Rattle.script_answers.specs.LookupLines.{mark_lookup_line}
use Rattle.script_calls.specs.MarkLaws.{binding_mark_told}
use Rattle.script_calls.specs.ReplayHoldsLaws.{asked_there, asked_nowhere, step_goes_on}
use borrow.Author.Rules.{rules}
use Rattle.script_calls.proofs.marks.binding_mark.Goals as goal

pub returns-then-state : goal.returns-then-state
returns-then-state c = λ m h. asked_there c.args.state m h _ _ _ _ c.if-state.true (λ x held. step_goes_on refl h (prints_same (ap (λ (l : ValueLookup). mark_lookup_line l.found l.mark) (c.binding_value-lookup.ensures x held) ∙ binding_mark_told x.projection _ _) c.print_mark-printed.ensures))

pub returns : goal.returns
returns c = λ m h. asked_nowhere c.args.state m h _ _ _ _ c.if-state.false (c.no_session.ensures m h)

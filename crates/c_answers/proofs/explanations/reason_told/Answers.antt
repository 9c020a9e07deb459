-- `c_answers::explanations::reason_told` meets its contract: number, rule, place and figures of the reason.
use mathlib.Core.Path.{◌∙◌}
use Rattle.session_explain.specs.Numbers.{number_is}
use borrow.Author.Rules.{rules}
use Rattle.c_answers.proofs.explanations.reason_told.Goals as goal

pub returns : goal.returns
returns c = λ i. record {
  disposition = 2;
  number = (c.number_of-number.ensures ∙ number_is c.args.reason) i;
  rule = c.rule_number-rule.ensures i;
  place = c.rule_place-place.ensures i;
  figures = c.rule_figures-told.ensures i;
}

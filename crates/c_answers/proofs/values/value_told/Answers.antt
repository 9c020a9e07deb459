-- `value_told` meets its contract: the value, or none.
use Rattle.std.proofs.Common.{sym, ap, ◌∙◌}
use Rattle.c_answers.specs.Values.{value_number_to, value_told}
use Rattle.c_answers.proofs.values.value_told.Goals as goal

pub returns-in-Some : goal.returns-in-Some
returns-in-Some c = c.value_to.ensures ∙ ap value_told (sym c.in-Some.is)

pub returns-in-None : goal.returns-in-None
returns-in-None c = c.value_to-in-None.ensures ∙ ap (value_number_to 3) c.no_value.ensures ∙ ap value_told (sym c.in-None.is)

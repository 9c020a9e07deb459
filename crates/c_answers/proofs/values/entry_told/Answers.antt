-- `entry_told` meets its contract: the entry, or none.
use Rattle.std.proofs.Common.{sym, ap, ◌∙◌}
use Rattle.panel_rows.specs.declared.values.ValueLookup.{ValueLookup}
use Rattle.c_answers.specs.declared.values.GeysertrayEntry.{GeysertrayEntry}
use Rattle.c_answers.specs.Values.{value_number_to, entry_told}
use Rattle.c_answers.proofs.values.entry_told.Goals as goal

pub returns-in-Some : goal.returns-in-Some
returns-in-Some c = (λ i. record { key = c.in-Some.entry.key; value = c.value_to.ensures i }) ∙ ap entry_told (sym c.in-Some.is)

pub returns-in-None : goal.returns-in-None
returns-in-None c =
    (λ i. record { key = 0; value = (c.value_to-in-None.ensures ∙ ap (value_number_to 3) c.no_value.ensures) i }) ∙ ap entry_told (sym c.in-None.is)

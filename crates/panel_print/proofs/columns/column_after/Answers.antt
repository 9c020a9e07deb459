-- `columns::column_after` meets its contract: the tests are those of the definition.
use mathlib.Core.Path.{sym, ◌∙◌}
use native.Mathlib.Omega.{arith}
use borrow.Author.Rules.{rules}
use Rattle.panel_print.specs.ByteFlowLaws.{column_first, column_next, column_stays}
use Rattle.panel_print.proofs.columns.column_after.Goals as goal

pub returns-then-not-begins_character-clause-after : goal.returns-then-not-begins_character-clause-after
returns-then-not-begins_character-clause-after c = sym (column_stays c.args.column c.args.byte (search rules))

pub returns-then-column-eq-TEXT_WIDTH-clause-after : goal.returns-then-column-eq-TEXT_WIDTH-clause-after
returns-then-column-eq-TEXT_WIDTH-clause-after c = sym (column_first c.args.column c.args.byte (search rules) c.if-column-eq-TEXT_WIDTH.true)

pub returns-else-column-eq-TEXT_WIDTH-clause-after : goal.returns-else-column-eq-TEXT_WIDTH-clause-after
returns-else-column-eq-TEXT_WIDTH-clause-after c = sym (column_next c.args.column c.args.byte (search rules) c.if-column-eq-TEXT_WIDTH.false)

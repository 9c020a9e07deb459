-- `columns::begins_character` meets its contract: the tests are those of the definition.
use mathlib.Core.Path.{sym, ◌∙◌}
use native.Mathlib.Omega.{arith}
use borrow.Author.Tests.{lt-ltb}
use Rattle.panel_print.specs.ByteFlowLaws.{ascii_begins, other_begins}
use Rattle.panel_print.proofs.columns.begins_character.Goals as goal

pub returns-then-byte-lt128 : goal.returns-then-byte-lt128
returns-then-byte-lt128 c = lt-ltb _ 128 c.if-byte-lt128.true ∙ sym (ascii_begins _ c.if-byte-lt128.true)

pub returns-else-byte-lt128 : goal.returns-else-byte-lt128
returns-else-byte-lt128 c = sym (other_begins _ (omega arith))

-- `columns::shown_byte` meets its contract: the tests are those of the definition.
use mathlib.Core.Path.{sym}
use native.Mathlib.Omega.{arith}
use Rattle.panel_print.specs.ByteFlowLaws.{low_stops, delete_stops, other_shown}
use Rattle.panel_print.proofs.columns.shown_byte.Goals as goal

pub returns-in-127 : goal.returns-in-127
returns-in-127 c = sym (delete_stops c.args.byte c.in-127.is)

pub returns-in_default : goal.returns-in_default
returns-in_default c = sym (low_stops c.args.byte c.if-byte-lt-SPACE.true)

pub returns-in_default-2 : goal.returns-in_default-2
returns-in_default-2 c = sym (other_shown c.args.byte (omega arith) (search c.in_default.in_default-own.rest))

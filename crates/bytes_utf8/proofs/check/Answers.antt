-- `bytes_utf8::check` meets its contract: a text of groups below 0x80 has as many characters as bytes, and the table for any other is right.
use mathlib.Core.Path.{refl, sym}
use native.Mathlib.Omega.{arith}
use Rattle.bytes_utf8.specs.Classes.{class_of}
use Rattle.bytes_utf8.proofs.TableLaws.{class_table}
use Rattle.bytes_utf8.proofs.Reached.{reached_front, reached_end}
use Rattle.bytes_utf8.proofs.check.Goals as goal

pub returns-then-passed-text : goal.returns-then-passed-text
returns-then-passed-text c = sym (reached_end (reached_front c.front_end-passed.ensures) (omega arith))

pub check_from-requires : goal.check_from-requires
unfolding class_of
check_from-requires c = (class_table _ refl, c.front_end-passed.ensures)

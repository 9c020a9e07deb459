-- `bytes_hex::hex_value` meets its contract: a figure, a letter, and below, between and above them.
use mathlib.Core.Path.{sym}
use native.Mathlib.Omega.{arith}
use Rattle.bytes_hex.proofs.Digits.{below_figures, figure, amid, letter, above_letters}
use Rattle.bytes_hex.proofs.hex_value.Goals as goal

pub returns-in-48-to-57 : goal.returns-in-48-to-57
returns-in-48-to-57 c = (sym (figure _ (omega arith) (omega arith)).1, omega arith)

pub returns-in-97-to-102 : goal.returns-in-97-to-102
returns-in-97-to-102 c = (omega (arith, (letter c.args.byte (omega arith) (omega arith)).1), omega arith)

pub returns-in_default : goal.returns-in_default
returns-in_default c = (sym (below_figures _ (omega arith)).1, omega arith)

pub returns-in_default-2 : goal.returns-in_default-2
returns-in_default-2 c = (sym (amid _ (omega arith) (omega arith)).1, omega arith)

pub returns-in_default-3 : goal.returns-in_default-3
returns-in_default-3 c = (sym (above_letters _ (omega arith)).1, omega arith)

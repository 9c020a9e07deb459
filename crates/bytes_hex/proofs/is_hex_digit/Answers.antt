-- `bytes_hex::is_hex_digit` meets its contract: a figure, a letter, and below, between and above them.
use mathlib.Core.Path.{sym}
use native.Mathlib.Omega.{arith}
use Rattle.bytes_hex.proofs.Digits.{below_figures, figure, amid, letter, above_letters}
use Rattle.bytes_hex.proofs.is_hex_digit.Goals as goal

pub returns-in-48-to-57 : goal.returns-in-48-to-57
returns-in-48-to-57 c = sym (figure _ (omega arith) (omega arith)).0

pub returns-in-48-to-57-2 : goal.returns-in-48-to-57-2
returns-in-48-to-57-2 c = sym (letter _ (omega arith) (omega arith)).0

pub returns-in_default : goal.returns-in_default
returns-in_default c = sym (below_figures _ (omega arith)).0

pub returns-in_default-2 : goal.returns-in_default-2
returns-in_default-2 c = sym (amid _ (omega arith) (omega arith)).0

pub returns-in_default-3 : goal.returns-in_default-3
returns-in_default-3 c = sym (above_letters _ (omega arith)).0

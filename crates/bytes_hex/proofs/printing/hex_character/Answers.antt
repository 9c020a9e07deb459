-- `bytes_hex::printing::hex_character` meets its contract: a figure, or a letter.
use mathlib.Core.Path.{refl}
use native.Mathlib.Omega.{arith}
use borrow.Author.Tests.{lt-ltb, le-ltb}
use Rattle.spec_replay.specs.Hex.{hex_character}
use Rattle.bytes_hex.proofs.printing.hex_character.Goals as goal

pub returns-then-digit-lt10 : goal.returns-then-digit-lt10
unfolding hex_character
returns-then-digit-lt10 c = rw (lt-ltb c.args.digit 10 c.if-digit-lt10.true) refl

pub returns-else-digit-lt10 : goal.returns-else-digit-lt10
unfolding hex_character
returns-else-digit-lt10 c = rw (le-ltb c.args.digit 10 (omega arith)) (omega arith)

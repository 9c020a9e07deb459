-- `bytes_utf8::other_end` meets its contract.
use mathlib.Core.Path.{refl}
use native.Mathlib.Omega.{arith}
use Rattle.bytes_utf8.specs.Classes.{after_class}
use Rattle.bytes_utf8.proofs.other_end.Goals as goal

pub row_end-threes-requires : goal.row_end-threes-requires
unfolding after_class
row_end-threes-requires c = (c.requires.0, c.requires.1, (omega arith, omega arith, refl))

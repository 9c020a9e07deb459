use Prim.Native.Nat.{◌^◌, ◌<◌}
use mathlib.Core.Path.{◌≡◌}
use lib.ListN.{drop}
use Rattle.bytes_decimal.specs.Read.{read_digits}
use Rattle.bytes_decimal.proofs.read_digits.Given as goal

abbrev pub invariant-loop-byte : goal.invariant-loop-byte
invariant-loop-byte l = (l.n < 2 ^ 64) × (read_digits l.n (drop l.byte-index l.text) ≡ read_digits 0 l.text)

-- `bytes_utf8::front_end` meets its contract: the last 16 bytes begin among those that were passed.
use Prim.Native.Nat.{◌+◌, ◌-◌}
use mathlib.Core.Path.{◌≡◌}
use native.Mathlib.Omega.{arith}
use lib.ListN.{length}
use Rattle.bytes_utf8.proofs.AsciiLaws.{ascii_fewer, ascii_joined}
use Rattle.bytes_utf8.proofs.front_end.Goals as goal

pub returns-then-is_ascii : goal.returns-then-is_ascii
returns-then-is_ascii c =
    let len = length c.args.text.now in
    let end : len - 16 + 16 ≡ len = omega arith in
    rw (← end) (ascii_joined (ascii_fewer _ c.groups_end-passed.ensures (omega arith) (omega arith)) (c.is_ascii.ensures c.if-is_ascii.true))

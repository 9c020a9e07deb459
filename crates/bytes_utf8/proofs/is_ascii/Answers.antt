-- `bytes_utf8::is_ascii` meets its contract: the words stand one behind the other.
use Prim.Native.Nat.{◌+◌}
use mathlib.Core.Path.{◌≡◌}
use native.Mathlib.Omega.{arith}
use borrow.Author.Tests.{eqb-true}
use Rattle.bytes_utf8.proofs.AsciiLaws.{ascii_joined}
use Rattle.bytes_utf8.proofs.is_ascii.Goals as goal

pub returns-then-low-eq0 : goal.returns-then-low-eq0
returns-then-low-eq0 c e =
    let end : c.args.at + 8 + 8 ≡ c.args.at + 16 = omega arith in
    rw (← end) (ascii_joined (c.word_at-low.ensures c.if-low-eq0.true) (c.word_at-high.ensures (eqb-true _ _ e)))

pub returns-else-low-eq0 : goal.returns-else-low-eq0
returns-else-low-eq0 c e = absurd (c.if-low-eq0.false (eqb-true _ _ e))

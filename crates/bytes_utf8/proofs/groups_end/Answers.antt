-- `bytes_utf8::groups_end` meets its contract: the loop's invariant is the claim of the position reached.
use Rattle.bytes_utf8.proofs.AsciiLaws.{ascii_none, ascii_joined}
use Rattle.bytes_utf8.proofs.groups_end.Goals as goal

pub loop-i-init : goal.loop-i-init
loop-i-init c = ascii_none c.requires

pub returns-then-not-is_ascii : goal.returns-then-not-is_ascii
returns-then-not-is_ascii c = c.loop-i.invariant

pub loop-i-preserved : goal.loop-i-preserved
loop-i-preserved c = ascii_joined c.loop-i.invariant (c.is_ascii.ensures c.if-not-is_ascii.false)

pub returns : goal.returns
returns c = c.loop-i.invariant

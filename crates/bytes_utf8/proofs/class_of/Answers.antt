-- `bytes_utf8::class_of` meets its contract: the table that it is lent has the class of each byte.
use Rattle.bytes_utf8.proofs.class_of.Goals as goal

pub returns : goal.returns
returns c = c.requires.class_at c.args.byte c.ranges.byte.fits

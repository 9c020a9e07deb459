-- The measure of `send_between` is the number of batches that are left.
use Rattle.std.proofs.Common.{◌-◌}
use Rattle.session_lent_group.proofs.between.+send_between.Given as goal

abbrev pub decreases-send_between : goal.decreases-send_between
decreases-send_between l = l.left.count - l.left.place

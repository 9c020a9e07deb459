-- `check_quick::quick_patches::id_repeats` meets its contract: an id above all others is none of them.
use mathlib.Core.Path.{refl, sym}
use native.Mathlib.Omega.{arith}
use lib.ListN.{take}
use Rattle.check_quick.specs.QuickLaws.{above_unseen}
use borrow.Author.Rules.{rules}
use Rattle.check_quick.proofs.quick_patches.id_repeats.Goals as goal

pub returns-then-highest-id : goal.returns-then-highest-id
returns-then-highest-id c =
    record { seen = sym (above_unseen c.args.highest c.args.id (take c.args.used c.args.ids.now) c.requires.1 (omega arith)); kept = refl }

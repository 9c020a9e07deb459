use mathlib.Core.Path.{◌≡◌}
use lib.ListN.{length}
use Rattle.spec_page.specs.Page.{page_keys}
use Rattle.bench.proofs.pages.page_keys.Given as goal

abbrev pub invariant-loop-i : goal.invariant-loop-i
invariant-loop-i l = length l.keys ≡ page_keys

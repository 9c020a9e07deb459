-- `bytes_records::find_start` meets its contract: the rows not below the id are those above the number before it.
use mathlib.Core.Path.{sym, subst}
use Prim.Native.Nat.{ℕ}
use borrow.Author.Rules.{rules}
use Rattle.bytes_records.specs.Search.{Starts}
use Rattle.bytes_records.specs.SearchLaws.{starts_above}
use Rattle.bytes_records.proofs.find_start.Goals as goal

pub returns : goal.returns
returns c =
    record { start = (λ m t rising. subst (λ (at : ℕ). Starts c.args.id at m) (sym (c.find_above.ensures.first m t rising)) (starts_above m rising c.args.id (search rules))); within = c.find_above.ensures.within }

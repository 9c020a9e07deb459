-- `settle` meets its contract: the rows tell the place of the key.
use mathlib.Core.Path.{◌≡◌, sym, ◌∙◌, subst}
use mathlib.Core.Bool.{Bool}
use mathlib.Core.List.{List, [], ◌∷◌, map}
use mathlib.Core.Option.{Option}
use native.Mathlib.Omega.{arith}
use borrow.Author.Rules.{rules}
use Prim.Native.Nat.{ℕ}
use Rattle.spec_dependencies.specs.Settled.{Settled, settled_key, judge}
use Rattle.bytes_records.specs.Search.{place_of}
use Rattle.bytes_records.specs.Table.{HoldsRows}
use Rattle.set_dependencies.specs.SettledRows.{settled_row, row_width, SettledIn}
use Rattle.set_dependencies.specs.SettledRowsLaws.{rows_place, rows_ascending, start_within}
use Rattle.set_dependencies.specs.Settling.{expectation_of, SettlesAgain}
use Rattle.set_dependencies.proofs.Nearer.{rows_lent, settles_in, contradicts_in}
use Rattle.set_dependencies.proofs.settling.settle.Goals as goal
use Rattle.set_dependencies.proofs.settling.settle.Goals.{After-find_by_halving, After-settle_again}

placed : (k : After-find_by_halving) (t : List Settled) → SettledIn k.args.places k.args.table.now t
    → place_of settled_key (k.args.collection ∷ k.args.key ∷ []) t ≡ k.find_by_halving.result
placed k t s =
    let held = subst (λ (l : List ℕ). HoldsRows row_width k.args.places.count l (map settled_row t)) (sym (k.rows_from-rows.ensures (start_within s.rows))) s.rows.held in
    sym (k.find_by_halving.ensures.first (map settled_row t) held (rows_ascending t s.fit s.ascending) ∙ rows_place t s.fit _)

-- what is settled with the key
abbrev settled : After-settle_again → List Settled → Option (List Settled)
settled k t = judge (expectation_of k.args.collection k.args.key k.args.key_use) t

-- what was done with its row
again : (k : After-settle_again) (b : Bool) → k.settle_again.result ≡ b → (t : List Settled) → SettledIn k.args.places k.args.table.now t
    → SettlesAgain (settled k t) k.args.places.count b k.settle_again.new.rows
again k b is t s =
    subst (λ (b : Bool). SettlesAgain (settled k t) k.args.places.count b k.settle_again.new.rows) is
    (k.settle_again.ensures t (rows_lent s) (placed (goal.at.After-settle_again k).After-find_by_halving t s ∙ k.in-Ok.is))

pub returns-then-table-places : goal.returns-then-table-places
returns-then-table-places c = λ t s room. absurd (omega (arith, s.rows.size, s.rows.low, c.if-table-places.true))

pub returns-then-settle_again : goal.returns-then-settle_again
returns-then-settle_again c = λ t s room. settles_in s (settled (goal.at.returns-then-settle_again c).After-settle_again t) c.settle_again.new.rows (search rules) (again (goal.at.returns-then-settle_again c).After-settle_again _ c.if-settle_again.true t s)

pub returns-else-settle_again : goal.returns-else-settle_again
returns-else-settle_again c = λ t s room. contradicts_in (settled (goal.at.returns-else-settle_again c).After-settle_again t) c.args.places.count c.settle_again.new.rows _ (again (goal.at.returns-else-settle_again c).After-settle_again _ c.if-settle_again.false t s)

pub returns-in-Err : goal.returns-in-Err
returns-in-Err c = λ t s room.
    c.settle_first.ensures t s (placed (goal.at.returns-in-Err c).After-find_by_halving t s ∙ c.in-Err.is) room

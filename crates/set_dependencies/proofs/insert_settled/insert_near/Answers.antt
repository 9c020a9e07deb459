-- `insert_near` meets its contract: there is room on both sides, and the rows on the shorter one are moved.
use mathlib.Core.Path.{refl}
use native.Mathlib.Omega.{arith}
use borrow.Author.Rules.{rules}
use Rattle.set_dependencies.proofs.Nearer.{inserted_behind, inserted_before}
use Rattle.set_dependencies.proofs.insert_settled.insert_near.Goals as goal

pub returns-then-count-ge-ROWS : goal.returns-then-count-ge-ROWS
returns-then-count-ge-ROWS c = λ rows h room within wide. absurd (omega (arith, room, c.if-count-ge-ROWS.true))

pub returns-then-table-start : goal.returns-then-table-start
returns-then-table-start c = λ rows h room within wide. absurd (omega (arith, h.size, h.low, c.if-table-start.true))

pub returns-then-start-eq0 : goal.returns-then-start-eq0
returns-then-start-eq0 c = λ rows h room within wide. absurd (omega (arith, h.high, room, c.if-start-eq0.true))

pub returns-then-at-count : goal.returns-then-at-count
returns-then-at-count c = λ rows h room within wide. inserted_before h room _ within _ wide _ refl _ _ refl c.move_record.ensures (search rules)

pub returns : goal.returns
returns c = λ rows h room within wide. inserted_behind h room _ within _ wide _ refl _ _ refl c.insert_record.ensures (search rules)

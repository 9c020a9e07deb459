-- `cursor_in` meets its contract: one head after the other.
use mathlib.Core.Path.{◌≡◌, sym, ap, ◌∙◌}
use mathlib.Core.List.{List}
use Prim.Native.Nat.{ℕ}
use Rattle.spec_session.specs.Session.{Cursor}
use Rattle.session_lent.specs.Head.{state_at}
use Rattle.session_lent_group.specs.declared.places.LentHalf.{LentHalf}
use Rattle.session_lent_group.specs.declared.places.LentHalf.TheVariants.{Own, First, Second}
use Rattle.session_lent_group.specs.Sendings.{standing}
use borrow.Author.Rules.{rules}
use Rattle.session_lent_group.proofs.group.cursor_in.Goals as goal

-- the head in the place that was found
at_place : {c : Cursor} (half is : LentHalf) (own first second : List ℕ) → half ≡ is → c ≡ (state_at (standing is own first second)).cursor → c ≡ (state_at (standing half own first second)).cursor
at_place half is own first second e same = same ∙ ap (λ (x : LentHalf). (state_at (standing x own first second)).cursor) (sym e)

pub returns-in-Own : goal.returns-in-Own
returns-in-Own c = at_place c.args.half Own c.args.own.now c.args.first.now c.args.second.now c.in-Own.is c.head_cursor.ensures

pub returns-in-First : goal.returns-in-First
returns-in-First c = at_place c.args.half First c.args.own.now c.args.first.now c.args.second.now c.in-First.is c.head_cursor-in-First.ensures

pub returns-in-Second : goal.returns-in-Second
returns-in-Second c = at_place c.args.half Second c.args.own.now c.args.first.now c.args.second.now c.in-Second.is c.head_cursor-in-Second.ensures

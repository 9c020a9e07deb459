-- `geysertray_turns_next` meets its contract: the call below is told the cursor.
use Rattle.std.specs.Prelude.{Option}
use Prim.Native.Nat.{ℕ}
use mathlib.Core.Path.{◌≡◌, subst}
use mathlib.Core.List.{List}
use Rattle.spec_session.specs.Session.{Cursor}
use Rattle.session_lent_turns.specs.LentTurns.{TurnCall}
use Rattle.session_turns.specs.declared.Turn.{Turn}
use borrow.Author.Rules.{rules}
use Rattle.c_exports.proofs.turns.geysertray_turns_next.Goals as goal

same_cursor : {x y : Cursor} {t t' : List ℕ} {a : Option (Option Turn)} → x ≡ y → TurnCall x t a t' → TurnCall y t a t'
same_cursor {t = t} {t' = t'} {a = a} is = subst (λ (cursor : Cursor). TurnCall cursor t a t') is

pub returns : goal.returns
returns c =
    record { answer = c.turn-answer.result; call = same_cursor c.cursor_of-told.ensures c.turn-answer.ensures; told = c.lent_turn_told.ensures }

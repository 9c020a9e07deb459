-- `concluded` meets its contract.
use Prim.Native.Nat.{ℕ}
use mathlib.Core.Path.{◌≡◌, refl, sym, subst}
use mathlib.Core.List.{List}
use Rattle.session_lifecycle.specs.Meaning.{cursor_of}
use Rattle.session_lifecycle.specs.declared.state.ProjectionReplayCursor.{ProjectionReplayCursor}
use Rattle.session_steps.specs.declared.answers.ProjectionPatchApplicationResult.{ProjectionPatchApplicationResult}
use Rattle.session_group.specs.declared.GroupAnswer.TheVariants.{Taken, RefusedAt}
use Rattle.session_lent.specs.Head.{state_at}
use Rattle.session_lent_group.specs.declared.places.LentHalf.{LentHalf}
use Rattle.session_lent_group.specs.declared.places.LentHalf.TheVariants.{Own}
use Rattle.session_lent_group.specs.Sendings.{standing}
use Rattle.session_lent_group.specs.declared.places.RefusedBatch.{RefusedBatch}
use Rattle.std.specs.Prelude.{Result, Ok, Err}
use Rattle.session_lent_group.specs.LentGroups.{ConcludedAs}
use Rattle.session_lent_group.proofs.group.concluded.Goals as goal

ended_as : (x : Result LentHalf RefusedBatch) (half : LentHalf) (count : ℕ) (own first second : List ℕ) → x ≡ Ok half → (c : ProjectionReplayCursor) → cursor_of c ≡ (state_at (standing half own first second)).cursor → ConcludedAs x count own first second (Taken count c, half)
ended_as x half count own first second is c told = subst (λ (y : Result LentHalf RefusedBatch). ConcludedAs y count own first second (Taken count c, half)) (sym is) (c, (told, refl))

broke_as : (x : Result LentHalf RefusedBatch) (a : RefusedBatch) (count : ℕ) (own first second : List ℕ) → x ≡ Err a → (c : ProjectionReplayCursor) → cursor_of c ≡ (state_at own).cursor
    → ConcludedAs x count own first second (RefusedAt a.place (record { disposition = a.answer.disposition; diagnostics = a.answer.diagnostics; replay_cursor = c }), Own)
broke_as x a count own first second is c told =
    subst (λ (y : Result LentHalf RefusedBatch). ConcludedAs y count own first second (RefusedAt a.place (record { disposition = a.answer.disposition; diagnostics = a.answer.diagnostics; replay_cursor = c }), Own)) (sym is) (c, (told, refl))

pub returns-in-Ok : goal.returns-in-Ok
returns-in-Ok c =
    ended_as c.args.run _ c.args.count c.args.own.now c.args.first.now c.args.second.now c.in-Ok.is c.cursor_in-cursor.result c.cursor_in-cursor.ensures

pub returns-in-Err : goal.returns-in-Err
returns-in-Err c =
    broke_as c.args.run _ c.args.count c.args.own.now c.args.first.now c.args.second.now c.in-Err.is c.head_cursor.result c.head_cursor.ensures

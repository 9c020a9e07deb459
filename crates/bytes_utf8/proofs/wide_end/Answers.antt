-- `bytes_utf8::wide_end` meets its contract. The loop's invariant is `Reached`.
use Prim.Native.Nat.{◌+◌}
use mathlib.Core.Path.{◌≡◌, ap, ◌∙◌}
use native.Mathlib.Omega.{arith}
use lib.ListN.{drop}
use borrow.Author.Rules.{rules}
use Rattle.spec_lists.proofs.ListLaws.{lent_from_lem}
use Rattle.bytes_utf8.specs.Characters.{character_length, if_any, Reached}
use Rattle.bytes_utf8.proofs.CharacterLaws.{found_length, no_length}
use Rattle.bytes_utf8.proofs.Reached.{reached_character}
use Rattle.bytes_utf8.proofs.wide_end.Goals as goal
use Rattle.bytes_utf8.proofs.wide_end.Goals.{In-Some}

measured : (c : In-Some) → (c.in-Some.length ≡ character_length (drop c.loop-at.at c.args.text.now)) × (c.in-Some.length ≡ 0 → ⊥)
measured c =
    found_length c.in-Some.length _ (c.in-Some.ensures ∙ ap (λ l. if_any (character_length l)) (lent_from_lem c.args.text.now c.loop-at.at))

-- one character more
more : (c : In-Some) → Reached c.args.text.now (c.loop-at.characters + 1) (c.loop-at.at + c.in-Some.length)
more c = reached_character _ c.loop-at.invariant.0 (measured c).0 (measured c).1

pub returns-in_default : goal.returns-in_default
returns-in_default c =
    let none = no_length _ (c.in_default.ensures ∙ ap (λ l. if_any (character_length l)) (lent_from_lem c.args.text.now c.loop-at.at)) in
    (c.loop-at.invariant.0, c.loop-at.invariant.1, λ e. rw (← e) none)

pub overflow_add-at : goal.overflow_add-at
overflow_add-at c = let r = more c in search rules

pub overflow_add-characters : goal.overflow_add-characters
overflow_add-characters c = let r = more (goal.at.overflow_add-characters c).In-Some in search rules

pub returns-then-length-lt3 : goal.returns-then-length-lt3
returns-then-length-lt3 c =
    let r = more (goal.at.returns-then-length-lt3 c).In-Some in
    (r, omega arith, λ e. absurd ((measured (goal.at.returns-then-length-lt3 c).In-Some).1 (omega arith)))

pub loop-at-smaller : goal.loop-at-smaller
loop-at-smaller c =
    let r = more (goal.at.loop-at-smaller c).In-Some in
    let some = (measured (goal.at.loop-at-smaller c).In-Some).1 in
    omega (arith, r.within, some)

pub loop-at-preserved : goal.loop-at-preserved
loop-at-preserved c = (more (goal.at.loop-at-preserved c).In-Some, omega arith)

pub returns : goal.returns
returns c = (c.loop-at.invariant.0, c.loop-at.invariant.1, λ e. absurd (omega arith))

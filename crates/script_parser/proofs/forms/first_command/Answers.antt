-- `script_parser::forms::first_command` meets its contract: each row of the first words, and none of them.
use Prim.Native.Nat.{ℕ}
use mathlib.Core.Path.{◌≡◌, refl, sym, ap, ◌∙◌}
use mathlib.Core.Bool.{true, false≢true}
use mathlib.Core.List.{[]}
use borrow.Author.Tests.{le-ltb, ne_eqb}
use Rattle.std.specs.Prelude.{None}
use native.Mathlib.Omega.{arith}
use Rattle.spec_replay.specs.Script.{Command, binding, edition, print, bytes_lent, given}
use Rattle.script_parser.specs.FormsLaws.{fits_bound, exceeds_bound}
use Rattle.script_parser.specs.Meaning.{asked_of, edition_read}
use Rattle.script_parser.specs.Forms.{first_base, form_at, number_in}
use borrow.Author.Rules.{rules}
use Rattle.script_parser.proofs.forms.first_command.Goals as goal
use Rattle.script_parser.proofs.forms.first_command.Goals.{In_default, Start}

by_form : (c : Start) (k : ℕ) → c.args.form ≡ k → (form_at k).makes c.args.values [] ≡ (form_at c.args.form).makes c.args.values []
by_form c k e = ap (λ (n : ℕ). (form_at n).makes c.args.values []) (sym e)

no_set : (c : In_default) (k : ℕ) → (form_at k).with_set ≡ true → c.args.form ≡ k → ⊥
no_set c k is e = false≢true (sym c.requires.1 ∙ ap (λ (n : ℕ). (form_at n).with_set) e ∙ is)

pub returns-in-16 : goal.returns-in-16
unfolding form_at
returns-in-16 c = λ line. by_form (goal.at.returns-in-16 c).Start 16 c.in-16.is

pub returns-in-17 : goal.returns-in-17
unfolding form_at
returns-in-17 c = λ line. by_form (goal.at.returns-in-17 c).Start 17 c.in-17.is

-- the pair of a node and a slot
abbrev bound_to : ℕ → ℕ → Command
bound_to node slot = binding (record { node = node; slot = slot })

pub returns-in_ok-bound-in-18 : goal.returns-in_ok-bound-in-18
unfolding form_at
returns-in_ok-bound-in-18 c =
    λ line. ap (bound_to (number_in c.args.values 0)) c.in_ok-bound-in-18.ensures.0
    ∙ fits_bound 4294967295 (number_in c.args.values 1) (bound_to (number_in c.args.values 0)) (omega (arith, c.in_ok-bound-in-18.ensures))
    ∙ by_form (goal.at.returns-in_ok-bound-in-18 c).Start 18 c.in-18.is

pub returns-in_err-bound-in-18 : goal.returns-in_err-bound-in-18
unfolding form_at
returns-in_err-bound-in-18 c =
    let gone : c.from_residual.result ≡ None = search rules in
    λ line. ap (asked_of line) gone
    ∙ exceeds_bound 4294967295 (number_in c.args.values 1) (bound_to (number_in c.args.values 0)) c.in_err-bound-in-18.ensures
    ∙ by_form (goal.at.returns-in_err-bound-in-18 c).Start 18 c.in-18.is

pub returns-in-19 : goal.returns-in-19
unfolding form_at
returns-in-19 c = λ line. by_form (goal.at.returns-in-19 c).Start 19 c.in-19.is

pub returns-in-20 : goal.returns-in-20
unfolding form_at
returns-in-20 c = λ line. by_form (goal.at.returns-in-20 c).Start 20 c.in-20.is

pub returns-in-25 : goal.returns-in-25
unfolding form_at
returns-in-25 c = λ line. by_form (goal.at.returns-in-25 c).Start 25 c.in-25.is

pub returns-in-27 : goal.returns-in-27
unfolding form_at
returns-in-27 c = λ line. by_form (goal.at.returns-in-27 c).Start 27 c.in-27.is

pub returns-in-28 : goal.returns-in-28
unfolding form_at
returns-in-28 c = λ line. by_form (goal.at.returns-in-28 c).Start 28 c.in-28.is

pub returns-in-29 : goal.returns-in-29
unfolding form_at
returns-in-29 c = λ line. by_form (goal.at.returns-in-29 c).Start 29 c.in-29.is

pub returns-in_ok-edition-in-30 : goal.returns-in_ok-edition-in-30
unfolding form_at given
returns-in_ok-edition-in-30 c =
    λ line. ap (λ o. given o edition) (sym (ap edition_read c.in_ok-edition-in-30.was) ∙ c.numbered_edition.ensures)
    ∙ by_form (goal.at.returns-in_ok-edition-in-30 c).Start 30 c.in-30.is

pub returns-in_err-edition-in-30 : goal.returns-in_err-edition-in-30
unfolding form_at given
returns-in_err-edition-in-30 c =
    let gone : c.from_residual-in_err-edition-in-30.result ≡ None = search rules in
    λ line. ap (asked_of line) gone
    ∙ ap (λ o. given o edition) (sym (ap edition_read c.in_err-edition-in-30.was) ∙ c.numbered_edition.ensures)
    ∙ by_form (goal.at.returns-in_err-edition-in-30 c).Start 30 c.in-30.is

pub returns-in_ok-room-in-34 : goal.returns-in_ok-room-in-34
unfolding form_at
returns-in_ok-room-in-34 c =
    λ line. ap (print (number_in c.args.values 0)) c.in_ok-room-in-34.ensures.0
    ∙ fits_bound bytes_lent (number_in c.args.values 1) (print (number_in c.args.values 0)) (omega (arith, c.in_ok-room-in-34.ensures))
    ∙ by_form (goal.at.returns-in_ok-room-in-34 c).Start 34 c.in-34.is

pub returns-in_err-room-in-34 : goal.returns-in_err-room-in-34
unfolding form_at
returns-in_err-room-in-34 c =
    let gone : c.from_residual-in_err-room-in-34.result ≡ None = search rules in
    λ line. ap (asked_of line) gone
    ∙ exceeds_bound bytes_lent (number_in c.args.values 1) (print (number_in c.args.values 0)) c.in_err-room-in-34.ensures
    ∙ by_form (goal.at.returns-in_err-room-in-34 c).Start 34 c.in-34.is

pub returns-in-36 : goal.returns-in-36
unfolding form_at
returns-in-36 c = λ line. by_form (goal.at.returns-in-36 c).Start 36 c.in-36.is

pub returns-in_default : goal.returns-in_default
unfolding form_at
returns-in_default c =
    λ line. rw (
      le-ltb c.args.form first_base c.requires.0,
      ne_eqb c.args.form 16 (search c.in_default.in_default-own.rest),
      ne_eqb c.args.form 17 (search c.in_default.in_default-own.rest),
      ne_eqb c.args.form 18 (search c.in_default.in_default-own.rest),
      ne_eqb c.args.form 19 (search c.in_default.in_default-own.rest),
      ne_eqb c.args.form 20 (search c.in_default.in_default-own.rest),
      ne_eqb c.args.form 22 (no_set c 22 refl),
      ne_eqb c.args.form 23 (no_set c 23 refl),
      ne_eqb c.args.form 24 (no_set c 24 refl),
      ne_eqb c.args.form 25 (search c.in_default.in_default-own.rest),
      ne_eqb c.args.form 27 (search c.in_default.in_default-own.rest),
      ne_eqb c.args.form 28 (search c.in_default.in_default-own.rest),
      ne_eqb c.args.form 29 (search c.in_default.in_default-own.rest),
      ne_eqb c.args.form 30 (search c.in_default.in_default-own.rest),
      ne_eqb c.args.form 31 (no_set c 31 refl),
      ne_eqb c.args.form 33 (no_set c 33 refl),
      ne_eqb c.args.form 34 (search c.in_default.in_default-own.rest),
      ne_eqb c.args.form 36 (search c.in_default.in_default-own.rest),
      ne_eqb c.args.form 39 (no_set c 39 refl),
    )

-- `script_parser::forms::second_command` meets its contract: each row of the second words, and none of them.
use Prim.Native.Nat.{ℕ}
use mathlib.Core.Path.{◌≡◌, sym, ap, ◌∙◌}
use mathlib.Core.List.{[]}
use borrow.Author.Tests.{lt-ltb, ne_eqb}
use Rattle.session_lifecycle.specs.Meaning.{stimulus_of, command_of}
use Rattle.std.specs.Prelude.{None}
use native.Mathlib.Omega.{arith}
use Rattle.spec_replay.specs.Script.{value_binding, mark_binding}
use Rattle.script_parser.specs.FormsLaws.{fits_bound, exceeds_bound}
use Rattle.script_parser.specs.Meaning.{asked_of}
use Rattle.script_parser.specs.Forms.{first_base, form_at, number_in}
use borrow.Author.Rules.{rules}
use Rattle.script_parser.proofs.forms.second_command.Goals as goal
use Rattle.script_parser.proofs.forms.second_command.Goals.{Start}

by_form : (c : Start) (k : ℕ) → c.args.form ≡ k → (form_at k).makes c.args.values [] ≡ (form_at c.args.form).makes c.args.values []
by_form c k e = ap (λ (n : ℕ). (form_at n).makes c.args.values []) (sym e)

pub returns-in-0 : goal.returns-in-0
unfolding form_at stimulus_of command_of
returns-in-0 c = λ line. c.lifecycle_step.ensures line ∙ by_form (goal.at.returns-in-0 c).Start 0 c.in-0.is

pub returns-in-1 : goal.returns-in-1
unfolding form_at stimulus_of command_of
returns-in-1 c = λ line. c.lifecycle_step-in-1.ensures line ∙ by_form (goal.at.returns-in-1 c).Start 1 c.in-1.is

pub returns-in-2 : goal.returns-in-2
unfolding form_at stimulus_of command_of
returns-in-2 c = λ line. c.lifecycle_step-in-2.ensures line ∙ by_form (goal.at.returns-in-2 c).Start 2 c.in-2.is

pub returns-in-3 : goal.returns-in-3
unfolding form_at stimulus_of command_of
returns-in-3 c = λ line. c.lifecycle_step-in-3.ensures line ∙ by_form (goal.at.returns-in-3 c).Start 3 c.in-3.is

pub returns-in-4 : goal.returns-in-4
unfolding form_at stimulus_of command_of
returns-in-4 c = λ line. by_form (goal.at.returns-in-4 c).Start 4 c.in-4.is

pub returns-in_ok-slot-in-6 : goal.returns-in_ok-slot-in-6
unfolding form_at
returns-in_ok-slot-in-6 c =
    λ line. ap (value_binding (number_in c.args.values 0)) c.in_ok-slot-in-6.ensures.0
    ∙ fits_bound 4294967295 (number_in c.args.values 1) (value_binding (number_in c.args.values 0)) (omega (arith, c.in_ok-slot-in-6.ensures))
    ∙ by_form (goal.at.returns-in_ok-slot-in-6 c).Start 6 c.in-6.is

pub returns-in_err-slot-in-6 : goal.returns-in_err-slot-in-6
unfolding form_at
returns-in_err-slot-in-6 c =
    let gone : c.from_residual.result ≡ None = search rules in
    λ line. ap (asked_of line) gone
    ∙ exceeds_bound 4294967295 (number_in c.args.values 1) (value_binding (number_in c.args.values 0)) c.in_err-slot-in-6.ensures
    ∙ by_form (goal.at.returns-in_err-slot-in-6 c).Start 6 c.in-6.is

pub returns-in-7 : goal.returns-in-7
unfolding form_at
returns-in-7 c = λ line. by_form (goal.at.returns-in-7 c).Start 7 c.in-7.is

pub returns-in-8 : goal.returns-in-8
unfolding form_at
returns-in-8 c = λ line. by_form (goal.at.returns-in-8 c).Start 8 c.in-8.is

pub returns-in_ok-marked-in-10 : goal.returns-in_ok-marked-in-10
unfolding form_at
returns-in_ok-marked-in-10 c =
    λ line. ap (mark_binding (number_in c.args.values 0)) c.in_ok-marked-in-10.ensures.0
    ∙ fits_bound 4294967295 (number_in c.args.values 1) (mark_binding (number_in c.args.values 0)) (omega (arith, c.in_ok-marked-in-10.ensures))
    ∙ by_form (goal.at.returns-in_ok-marked-in-10 c).Start 10 c.in-10.is

pub returns-in_err-marked-in-10 : goal.returns-in_err-marked-in-10
unfolding form_at
returns-in_err-marked-in-10 c =
    let gone : c.from_residual-in_err-marked-in-10.result ≡ None = search rules in
    λ line. ap (asked_of line) gone
    ∙ exceeds_bound 4294967295 (number_in c.args.values 1) (mark_binding (number_in c.args.values 0)) c.in_err-marked-in-10.ensures
    ∙ by_form (goal.at.returns-in_err-marked-in-10 c).Start 10 c.in-10.is

pub returns-in-11 : goal.returns-in-11
unfolding form_at
returns-in-11 c = λ line. by_form (goal.at.returns-in-11 c).Start 11 c.in-11.is

pub returns-in-12 : goal.returns-in-12
unfolding form_at
returns-in-12 c = λ line. by_form (goal.at.returns-in-12 c).Start 12 c.in-12.is

pub returns-in_default : goal.returns-in_default
unfolding form_at
returns-in_default c =
    λ line. rw (
      lt-ltb c.args.form first_base c.requires,
      ne_eqb c.args.form 0 (search c.in_default.in_default-own.rest),
      ne_eqb c.args.form 1 (search c.in_default.in_default-own.rest),
      ne_eqb c.args.form 2 (search c.in_default.in_default-own.rest),
      ne_eqb c.args.form 3 (search c.in_default.in_default-own.rest),
      ne_eqb c.args.form 4 (search c.in_default.in_default-own.rest),
      ne_eqb c.args.form 6 (search c.in_default.in_default-own.rest),
      ne_eqb c.args.form 7 (search c.in_default.in_default-own.rest),
      ne_eqb c.args.form 8 (search c.in_default.in_default-own.rest),
      ne_eqb c.args.form 10 (search c.in_default.in_default-own.rest),
      ne_eqb c.args.form 11 (search c.in_default.in_default-own.rest),
      ne_eqb c.args.form 12 (search c.in_default.in_default-own.rest),
    )

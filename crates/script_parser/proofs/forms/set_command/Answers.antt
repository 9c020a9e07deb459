-- `script_parser::forms::set_command` meets its contract: each form with a set.
use Prim.Native.Nat.{ℕ}
use mathlib.Core.Path.{◌≡◌, sym, ap, ◌∙◌}
use mathlib.Core.Bool.{false≢true}
use mathlib.Core.List.{List}
use borrow.Author.Tests.{ne_eqb}
use Rattle.std.specs.Prelude.{None}
use native.Mathlib.Omega.{arith}
use lib.ListN.{drop}
use Rattle.spec_patch.specs.Sizes.{set_bytes}
use Rattle.spec_replay.specs.Hex.{read_hex}
use Rattle.spec_replay.specs.Script.{convert, depends, places_lent}
use Rattle.script_parser.specs.Forms.{form_at, number_in}
use Rattle.script_parser.specs.FormsLaws.{sets_listed, fits_bound, exceeds_bound, other_with_set}
use Rattle.script_parser.specs.Meaning.{set_from, asked_of}
use borrow.Author.Rules.{rules}
use Rattle.script_parser.proofs.forms.set_command.Goals as goal
use Rattle.script_parser.proofs.forms.set_command.Goals.{Start}

by_form : (c : Start) (line : List ℕ) (k : ℕ) → c.args.form ≡ k → set_from line c.args.from ((form_at k).makes c.args.values) ≡ set_from line c.args.from ((form_at c.args.form).makes c.args.values)
by_form c line k e = ap (λ (n : ℕ). set_from line c.args.from ((form_at n).makes c.args.values)) (sym e)

pub returns-in-22 : goal.returns-in-22
unfolding form_at
returns-in-22 c = λ line. by_form (goal.at.returns-in-22 c).Start line 22 c.in-22.is

pub returns-in-23 : goal.returns-in-23
unfolding form_at
returns-in-23 c = λ line. by_form (goal.at.returns-in-23 c).Start line 23 c.in-23.is

pub returns-in-24 : goal.returns-in-24
unfolding form_at
returns-in-24 c = λ line. by_form (goal.at.returns-in-24 c).Start line 24 c.in-24.is

pub returns-in_ok-room-in-31 : goal.returns-in_ok-room-in-31
unfolding form_at
returns-in_ok-room-in-31 c =
    λ line. (λ i. set_from line c.args.from (λ set. (ap (λ (n : ℕ). convert n set) c.in_ok-room-in-31.ensures.0 ∙ fits_bound set_bytes (number_in c.args.values 0) (λ n. convert n set) (omega (arith, c.in_ok-room-in-31.ensures))) i))
    ∙ by_form (goal.at.returns-in_ok-room-in-31 c).Start line 31 c.in-31.is

pub returns-in_err-room-in-31 : goal.returns-in_err-room-in-31
unfolding form_at
returns-in_err-room-in-31 c =
    let gone : c.from_residual.result ≡ None = search rules in
    λ line. ap (asked_of line) gone
    ∙ other_with_set (read_hex (drop c.args.from line))
    ∙ (λ i. set_from line c.args.from (λ set. exceeds_bound set_bytes (number_in c.args.values 0) (λ n. convert n set) c.in_err-room-in-31.ensures i))
    ∙ by_form (goal.at.returns-in_err-room-in-31 c).Start line 31 c.in-31.is

pub returns-in_ok-places-in-33 : goal.returns-in_ok-places-in-33
unfolding form_at
returns-in_ok-places-in-33 c =
    λ line. (λ i. set_from line c.args.from (λ set. (ap (λ (n : ℕ). depends n set) c.in_ok-places-in-33.ensures.0 ∙ fits_bound places_lent (number_in c.args.values 0) (λ n. depends n set) (omega (arith, c.in_ok-places-in-33.ensures))) i))
    ∙ by_form (goal.at.returns-in_ok-places-in-33 c).Start line 33 c.in-33.is

pub returns-in_err-places-in-33 : goal.returns-in_err-places-in-33
unfolding form_at
returns-in_err-places-in-33 c =
    let gone : c.from_residual-in_err-places-in-33.result ≡ None = search rules in
    λ line. ap (asked_of line) gone
    ∙ other_with_set (read_hex (drop c.args.from line))
    ∙ (λ i. set_from line c.args.from (λ set. exceeds_bound places_lent (number_in c.args.values 0) (λ n. depends n set) c.in_err-places-in-33.ensures i))
    ∙ by_form (goal.at.returns-in_err-places-in-33 c).Start line 33 c.in-33.is

pub returns-in-39 : goal.returns-in-39
unfolding form_at
returns-in-39 c = λ line. by_form (goal.at.returns-in-39 c).Start line 39 c.in-39.is

pub returns-in_default : goal.returns-in_default
unfolding form_at
returns-in_default c =
    let listed = rw (ne_eqb c.args.form 22 (search c.in_default.in_default-own.rest), ne_eqb c.args.form 23 (search c.in_default.in_default-own.rest), ne_eqb c.args.form 24 (search c.in_default.in_default-own.rest), ne_eqb c.args.form 31 (search c.in_default.in_default-own.rest), ne_eqb c.args.form 33 (search c.in_default.in_default-own.rest), ne_eqb c.args.form 39 (search c.in_default.in_default-own.rest)) at (sets_listed c.args.form c.requires.0) in
    absurd (false≢true (listed ∙ c.requires.1))

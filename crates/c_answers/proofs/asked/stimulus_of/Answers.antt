-- `stimulus_of` meets its contract.
use mathlib.Core.Path.{refl, sym, ap}
use borrow.Author.Tests.{ne_eqb}
use Rattle.session_lifecycle.specs.Meaning.{command_of, stimulus_of}
use Rattle.c_answers.specs.Asked.{command_at}
use Rattle.c_answers.proofs.asked.stimulus_of.Goals as goal

pub returns-in-0 : goal.returns-in-0
unfolding stimulus_of command_of command_at
returns-in-0 c = ap command_at (sym c.in-0.is)

pub returns-in-1 : goal.returns-in-1
unfolding stimulus_of command_of command_at
returns-in-1 c = ap command_at (sym c.in-1.is)

pub returns-in-2 : goal.returns-in-2
unfolding stimulus_of command_of command_at
returns-in-2 c = ap command_at (sym c.in-2.is)

pub returns-in-3 : goal.returns-in-3
unfolding stimulus_of command_of command_at
returns-in-3 c = ap command_at (sym c.in-3.is)

pub returns-in_default : goal.returns-in_default
unfolding stimulus_of command_at
returns-in_default c = rw (ne_eqb _ 0 c.in_default.in_default-own.rest.0.0.0.1, ne_eqb _ 1 c.in_default.in_default-own.rest.0.0.1, ne_eqb _ 2 c.in_default.in_default-own.rest.0.1, ne_eqb _ 3 c.in_default.in_default-own.rest.1) refl

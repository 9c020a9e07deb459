-- `entries::quad_letter` meets its contract: the cases are those of the definition.
use borrow.Author.Rules.{rules}
use borrow.Author.Tests.{eq-eqb, ne_eqb}
use Rattle.panel_print.specs.LookupBytes.{letter_of}
use Rattle.panel_print.proofs.entries.quad_letter.Goals as goal

pub returns-in-0 : goal.returns-in-0
unfolding letter_of
returns-in-0 c = rw c.in-0.is

pub returns-in-1 : goal.returns-in-1
unfolding letter_of
returns-in-1 c = rw c.in-1.is

pub returns-in-2 : goal.returns-in-2
unfolding letter_of
returns-in-2 c = rw c.in-2.is

pub returns-in_default : goal.returns-in_default
unfolding letter_of
returns-in_default c = rw (ne_eqb c.args.number 0 (search c.in_default.in_default-own.rest), ne_eqb c.args.number 1 (search c.in_default.in_default-own.rest), ne_eqb c.args.number 2 (search c.in_default.in_default-own.rest))

-- `envelope_at` meets its contract: one number after the other.
use Rattle.c_answers.specs.Asked.{envelope_at}
use borrow.Author.Rules.{rules}
use Rattle.c_answers.proofs.asked.envelope_at.Goals as goal

pub returns : goal.returns
unfolding envelope_at
returns c =
    λ i. record { id = c.new.ensures i; stream = c.new-2.ensures i; document = c.new-3.ensures i; surface = c.surface_at.ensures i; previous = c.new-4.ensures i; revision = c.new-5.ensures i; epoch = c.new-6.ensures i; sequence = c.new-7.ensures i }

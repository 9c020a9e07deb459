-- `place_told` meets its contract.
use borrow.Author.Rules.{rules}
use Rattle.c_answers.proofs.values.place_told.Goals as goal

pub returns : goal.returns
returns c = λ i. record { position = c.args.place.position; value = c.value_to.ensures i }

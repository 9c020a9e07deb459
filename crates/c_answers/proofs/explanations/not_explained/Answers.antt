-- `c_answers::explanations::not_explained` meets its contract.
use borrow.Author.Rules.{rules}
use Rattle.c_answers.proofs.explanations.not_explained.Goals as goal

pub returns : goal.returns
returns c = λ i. record {
  disposition = c.args.disposition;
  number = 0;
  rule = 0;
  place = c.no_place-place.ensures i;
  figures = c.figures-none.ensures i;
}

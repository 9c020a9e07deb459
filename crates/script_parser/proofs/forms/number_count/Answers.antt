-- `script_parser::forms::number_count` meets its contract: the remainder of the form's shape.
use Rattle.script_parser.specs.Forms.{form_at}
use Rattle.script_parser.specs.FormsLaws.{counted_forms}
use borrow.Author.Rules.{rules}
use Rattle.script_parser.proofs.forms.number_count.Goals as goal

pub returns : goal.returns
unfolding form_at
returns c = counted_forms c.args.form c.requires

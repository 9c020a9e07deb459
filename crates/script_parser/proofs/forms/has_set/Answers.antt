-- `script_parser::forms::has_set` meets its contract: 16 and more in the form's shape.
use Rattle.script_parser.specs.Forms.{form_at}
use Rattle.script_parser.specs.FormsLaws.{set_forms_lem}
use borrow.Author.Rules.{rules}
use Rattle.script_parser.proofs.forms.has_set.Goals as goal

pub returns : goal.returns
unfolding form_at
returns c = set_forms_lem c.args.form c.requires

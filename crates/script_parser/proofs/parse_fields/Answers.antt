-- `script_parser::parse_fields` meets its contract: the form that the words ask for, a group, a page, a term list or one of so many fields.
use mathlib.Core.Path.{sym, ◌∙◌}
use Rattle.script_parser.specs.FormsLaws.{group_asked, page_asked, import_asked, counted_asked}
use borrow.Author.Rules.{rules}
use Rattle.script_parser.proofs.parse_fields.Goals as goal

pub returns-in-35 : goal.returns-in-35
returns-in-35 c = sym (c.find_form-found.ensures.asks ∙ group_asked c.find_form-found.result.form _ c.in-35.is)

pub returns-in-37 : goal.returns-in-37
returns-in-37 c = sym (c.find_form-found.ensures.asks ∙ page_asked c.find_form-found.result.form _ c.in-37.is)

pub returns-in-38 : goal.returns-in-38
returns-in-38 c = c.read_import.ensures ∙ sym (c.find_form-found.ensures.asks ∙ import_asked c.find_form-found.result.form _ c.in-38.is)

pub returns-in_default : goal.returns-in_default
returns-in_default c =
    c.counted_fields.ensures
    ∙ sym (c.find_form-found.ensures.asks ∙ counted_asked c.find_form-found.result.form _ (search c.in_default.in_default-own.rest) (search c.in_default.in_default-own.rest) (search c.in_default.in_default-own.rest))

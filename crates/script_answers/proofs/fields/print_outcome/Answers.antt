-- `script_answers::fields::print_outcome` meets its contract: five fields, one behind the other.
use borrow.Author.Rules.{rules}
use Rattle.spec_replay.specs.Answers.{session_fields}
use Rattle.bytes_printer.proofs.PrintsLaws.{◌⨾◌}
use Rattle.script_answers.specs.OpenFields.{open_fields}
use Rattle.script_answers.specs.OpenFieldsLaws.{last_open}
use Rattle.script_answers.proofs.fields.print_outcome.Goals as goal

pub returns : goal.returns
unfolding open_fields session_fields
returns c =
    c.print_disposition-word.ensures ⨾ c.print_field_u64-code.ensures ⨾ c.print_field_u64-stage.ensures ⨾ c.print_field_u64-logical.ensures ⨾ last_open c.print_field_u64.ensures

-- `value_bytes` meets its contract: the bytes up to where the value ends.
use mathlib.Core.Path.{sym, ap, ◌∙◌}
use mathlib.Core.Bool.{false}
use borrow.Author.Rules.{rules}
use lib.ListN.{drop}
use Rattle.spec_patch.specs.Read.{read_value_by}
use Rattle.projection_patch.specs.Meaning.{edition_of}
use Rattle.panel_writing.specs.Writing.{value_bytes}
use Rattle.panel_writing.proofs.Bytes.{bytes_of_read, bytes_of_refused}
use Rattle.panel_writing.proofs.value_bytes.Goals as goal

pub returns-in-Ok : goal.returns-in-Ok
unfolding value_bytes
returns-in-Ok c =
    let ed = edition_of c.args.edition in
    c.value_part.ensures ∙ ap (drop c.args.at) c.key_part.ensures
    ∙ bytes_of_read c.args.set.now c.args.at (read_value_by false ed (drop c.args.at c.args.set.now)) _ _ (sym c.in-Ok.is ∙ c.value_at.ensures)

pub returns-in-Err : goal.returns-in-Err
unfolding value_bytes
returns-in-Err c =
    let ed = edition_of c.args.edition in
    bytes_of_refused c.args.set.now c.args.at (read_value_by false ed (drop c.args.at c.args.set.now)) _ (sym c.in-Err.is ∙ c.value_at.ensures)

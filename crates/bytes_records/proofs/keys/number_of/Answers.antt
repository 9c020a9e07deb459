-- `bytes_records::keys::number_of` meets its contract: eight bytes are the library's.
use mathlib.Core.Path.{◌∙◌}
use borrow.Author.Rules.{rules}
use Rattle.bytes_records.proofs.Numbers.{whole_number}
use Rattle.bytes_records.proofs.keys.number_of.Goals as goal

pub returns-in-Some : goal.returns-in-Some
returns-in-Some c = c.from_le_bytes.ensures ∙ whole_number c.args.part.now (search rules) c.in-Some.ensures.cases

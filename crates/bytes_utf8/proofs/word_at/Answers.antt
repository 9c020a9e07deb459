-- `bytes_utf8::word_at` meets its contract.
use Rattle.bytes_utf8.proofs.AsciiLaws.{tells_word}
use Rattle.bytes_utf8.proofs.word_at.Goals as goal

pub returns : goal.returns
returns c =
    tells_word c.args.text.now (λ i. (c.type_inv.text i).fits) c.args.at c.requires c.from_le_bytes.ensures

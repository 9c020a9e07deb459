-- `bytes_hex::decode_pairs` meets its contract: no pairs, pairs that do not fit, and pairs that do.
use mathlib.Core.Path.{◌∙◌}
use native.Mathlib.Omega.{arith}
use borrow.Author.Rules.{rules}
use Rattle.bytes_hex.proofs.Answers.{even, pair_bytes_fit, pair_bytes_stored, exceeds, no_pairs}
use Rattle.bytes_hex.proofs.decode_pairs.Goals as goal

pub returns-then-not-is_hex_pairs : goal.returns-then-not-is_hex_pairs
returns-then-not-is_hex_pairs c =
    let all = no_pairs c.args.out.now c.args.text.now (search rules) in record { value = all.0; out_after = all.1 }

pub returns-then-out-count : goal.returns-then-out-count
returns-then-out-count c =
    let all = exceeds c.args.out.now c.args.text.now (search rules) (omega arith) in record { value = all.0; out_after = all.1 }

pub store_pairs-requires : goal.store_pairs-requires
store_pairs-requires c = (even c.args.out.now c.args.text.now (search rules), omega arith)

pub returns : goal.returns
returns c =
    record { value = pair_bytes_fit c.args.out.now c.args.text.now (search rules) (omega arith); out_after = c.store_pairs.ensures ∙ pair_bytes_stored c.args.out.now c.args.text.now (search rules) }

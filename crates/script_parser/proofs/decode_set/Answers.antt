-- `script_parser::decode_set` meets its contract: the hex from a place inside the line on, and none from any other place.
use Prim.Native.Nat.{ℕ, ◌≤◌, ◌<◌}
use Rattle.std.specs.Prelude.{Err}
use mathlib.Core.Path.{◌≡◌, ap, ◌∙◌}
use mathlib.Core.List.{List}
use native.Mathlib.Omega.{arith}
use borrow.Author.Rules.{rules}
use lib.ListN.{length, drop, drop_of_length-le}
use Rattle.spec_replay.specs.Hex.{read_hex}
use Rattle.bytes_hex.specs.declared.HexRefusal.TheVariants.{Malformed}
use Rattle.bytes_hex.specs.Decoding.{decoding, decoded_into}
use Rattle.script_parser.proofs.decode_set.Goals as goal

nothing_there : (line out : List ℕ) (from : ℕ) → length line ≤ from → (Err Malformed ≡ decoding (length out) (read_hex (drop from line))) × (out ≡ decoded_into out (read_hex (drop from line)))
unfolding read_hex decoding decoded_into
nothing_there line out from h = (rw (drop_of_length-le line h), rw (drop_of_length-le line h))

pub returns-in_err-text : goal.returns-in_err-text
returns-in_err-text c =
    let gone : c.from_residual.result ≡ Err Malformed = search rules in
    let past : length c.args.line.now < c.args.from = search rules in
    let all = nothing_there c.args.line.now c.args.out.now c.args.from (omega arith) in record { value = gone ∙ all.0; out_after = all.1 }

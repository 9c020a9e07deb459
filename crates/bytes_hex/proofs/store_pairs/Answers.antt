-- `bytes_hex::store_pairs` meets its contract. The invariant: the bytes of the first i pairs are in place.
use Prim.Native.Nat.{ℕ, ◌+◌, ◌*◌, ◌≤◌, ◌<◌}
use mathlib.Core.Path.{◌≡◌, sym, ap, ap₂, ◌∙◌}
use native.Mathlib.Omega.{arith}
use lib.ListN.{length, get_or, set}
use lib.Seq.{paste-zero}
use Rattle.bytes_wire.proofs.Paste.{paste_turn, paste_finished}
use Rattle.bytes_hex.specs.Decoding.{pair_bytes}
use Rattle.bytes_hex.specs.DecodingLaws.{length_pair_bytes, pair_bytes_at}
use Rattle.bytes_hex.proofs.store_pairs.Goals as goal

pub loop-i-init : goal.loop-i-init
loop-i-init c = paste-zero c.args.out.now 0 (pair_bytes c.args.text.now)

pub loop-i-preserved : goal.loop-i-preserved
loop-i-preserved c =
    let room : 0 + length (pair_bytes c.args.text.now) ≤ length c.args.out.now = omega (arith, length_pair_bytes c.args.text.now) in
    let more : c.loop-i.i < length (pair_bytes c.args.text.now) = omega (arith, length_pair_bytes c.args.text.now) in
    let here : c.loop-i.i ≡ 0 + c.loop-i.i = omega arith in
    let b : 16 * c.hex_value.result + c.hex_value-in-loop-i.result ≡ get_or (pair_bytes c.args.text.now) c.loop-i.i 0 =
    ap₂ (λ (h l : ℕ). 16 * h + l) c.hex_value.ensures.0 c.hex_value-in-loop-i.ensures.0 ∙ sym (pair_bytes_at c.args.text.now c.loop-i.i (omega arith)) in
    ap (λ (j : ℕ). set c.loop-i.out j (16 * c.hex_value.result + c.hex_value-in-loop-i.result)) here ∙ paste_turn c.args.out.now 0 (pair_bytes c.args.text.now) room c.loop-i.i more c.loop-i.out _ c.loop-i.invariant b

pub returns : goal.returns
returns c =
    let room : 0 + length (pair_bytes c.args.text.now) ≤ length c.args.out.now = omega (arith, length_pair_bytes c.args.text.now) in
    paste_finished c.args.out.now 0 (pair_bytes c.args.text.now) room c.loop-i.out c.loop-i.i (omega (arith, length_pair_bytes c.args.text.now)) c.loop-i.invariant

-- `bytes_hex::decode_hex` meets its contract: no text, the dash, and pairs.
use mathlib.Core.Path.{◌≡◌, ap, ◌∙◌}
use native.Mathlib.Omega.{arith}
use borrow.Author.Rules.{rules}
use lib.ListN.{length, get_or}
use Rattle.bytes_hex.specs.Decoding.{decoding, decoded_into}
use Rattle.bytes_hex.proofs.Answers.{no_text, dash_decoded, no_dash}
use Rattle.bytes_hex.proofs.decode_hex.Goals as goal
use Rattle.bytes_hex.proofs.decode_hex.Goals.{else-text-eq1-via-then-text-eq1+else-text-eq45, else-text-eq1-via-else-text-eq1}

pub returns-then-is_empty : goal.returns-then-is_empty
returns-then-is_empty c =
    let none : length c.args.text.now ≡ 0 = search rules in
    let all = no_text c.args.out.now c.args.text.now none in record { value = all.0; out_after = all.1 }

pub returns-then-text-eq45 : goal.returns-then-text-eq45
returns-then-text-eq45 c =
    let all = dash_decoded c.args.out.now c.args.text.now (omega arith) c.if-text-eq45.true in record { value = all.0; out_after = all.1 }

pub returns : goal.returns
returns c =
    let some : length c.args.text.now ≡ 0 → ⊥ = search rules in
    let other : length c.args.text.now ≡ 1 → get_or c.args.text.now 0 0 ≡ 45 → ⊥ = (λ one e. elim c.else-text-eq1.branch [ else-text-eq1-via-then-text-eq1+else-text-eq45 w ↦ w.if-text-eq45.false e | else-text-eq1-via-else-text-eq1 w ↦ w.if-text-eq1.false one ]) in
    let same = no_dash c.args.text.now some other in record { value = c.decode_pairs.ensures.value ∙ ap (decoding (length c.args.out.now)) same; out_after = c.decode_pairs.ensures.out_after ∙ ap (decoded_into c.args.out.now) same }

-- `patch_converter::store_with_letter` meets its contract: what is before the letter, the letter, and what is behind it.
use Prim.Native.Nat.{ℕ, ◌+◌, ◌%◌, ◌<◌}
use mathlib.Core.Path.{◌≡◌, ap, ap₂, ◌∙◌}
use mathlib.Core.List.{List, [], ◌∷◌, ◌++◌, append_assoc}
use native.Mathlib.Omega.{arith}
use borrow.Author.Rules.{rules}
use lib.ListN.{length, take, drop, length-append, length-drop}
use lib.Seq.{length-take-le}
use Rattle.spec_lists.specs.Bytes.{little_endian}
use Rattle.spec_patch.specs.Edition.{edition_digit}
use Rattle.bytes_wire.specs.Write.{overwrite}
use Rattle.bytes_wire.proofs.WriteLaws.{overwrite_append}
use Rattle.projection_patch.specs.Meaning.{edition_of}
use Rattle.spec_lists.proofs.ListLaws.{lent_from_lem}
use Rattle.patch_converter.proofs.store_with_letter.Goals as goal

-- a byte is its own only byte
alone : (x : ℕ) → x < 256 → little_endian 1 x ≡ x ∷ []
unfolding little_endian
alone x small =
    let same : x % 256 ≡ x = omega arith in
    ap (λ (b : ℕ). b ∷ []) same

pub returns : goal.returns
returns c =
    let letter = edition_digit (edition_of c.args.to) ∷ [] in
    let byte : little_endian 1 c.edition_digit.result ≡ letter = alone c.edition_digit.result c.edition_digit.type_inv ∙ ap (λ (d : ℕ). d ∷ []) c.edition_digit.ensures in
    let front : length (take 30 c.args.set.now) ≡ 30 = length-take-le 30 c.args.set.now (omega arith) in
    let both : length (take 30 c.args.set.now ++ letter) ≡ 31 = length-append (take 30 c.args.set.now) letter ∙ ap (λ (n : ℕ). n + 1) front in
    c.write_bytes_at-2.ensures.out_after
    ∙ ap₂ (λ (o b : List ℕ). overwrite o 31 b)
    (c.write_u8_at.ensures.out_after ∙ ap₂ (λ (o b : List ℕ). overwrite o 30 b) c.write_bytes_at.ensures.out_after byte ∙ overwrite_append c.args.out.now 0 (take 30 c.args.set.now) letter 30 front (omega arith))
    (lent_from_lem c.args.set.now 31)
    ∙ overwrite_append c.args.out.now 0 (take 30 c.args.set.now ++ letter) (drop 31 c.args.set.now) 31 both (omega (arith, length-drop 31 c.args.set.now))
    ∙ ap (overwrite c.args.out.now 0) (append_assoc (take 30 c.args.set.now) letter (drop 31 c.args.set.now))

-- `bytes_decimal::read_i64` meets its contract: the first byte decides the sign, and the rest is read as a magnitude.
use Rattle.std.proofs.Common.{rules, ◌≡◌, ◌≤◌, ◌<◌, length, get_or, arith, sym, ap, ◌∙◌}
use Rattle.std.proofs.lemmas.List.{take_rest}
use Rattle.spec_lists.specs.Options.{optional_of}
use Rattle.spec_decimal.specs.Decimal.{read_decimal, positive, negative}
use Rattle.bytes_decimal.proofs.Signs.{positive_none, negative_none, positive_tried, signed_minus, signed_other}
use Rattle.bytes_decimal.proofs.read_i64.Goals as goal
use Rattle.bytes_decimal.proofs.read_i64.Goals.{in_default-via-then-text-lt1, in_default-via-else-text-lt1+in_default-1}

pub returns-in_err-read_u64-in-45 : goal.returns-in_err-read_u64-in-45
returns-in_err-read_u64-in-45 c =
    ap optional_of c.from_residual.ensures ∙ sym negative_none
    ∙ ap negative (c.in_err-read_u64-in-45.ensures ∙ ap read_decimal (take_rest c.args.text.now 1))
    ∙ sym (signed_minus c.args.text.now (omega arith) (omega arith))

pub returns-in_ok-read_u64-in-45 : goal.returns-in_ok-read_u64-in-45
returns-in_ok-read_u64-in-45 c =
    c.to_negative.ensures
    ∙ ap negative (c.in_ok-read_u64-in-45.ensures ∙ ap read_decimal (take_rest c.args.text.now 1))
    ∙ sym (signed_minus c.args.text.now (omega arith) (omega arith))

pub returns-in_err-read_u64-in_default : goal.returns-in_err-read_u64-in_default
returns-in_err-read_u64-in_default c =
    let other : 1 ≤ length c.args.text.now → get_or c.args.text.now 0 0 ≡ 45 → ⊥ = λ h e. elim c.in_default-1.branch [ in_default-via-then-text-lt1 w ↦ let k : length c.args.text.now < 1 = search rules in omega arith | in_default-via-else-text-lt1+in_default-1 w ↦ search rules ] in
    ap optional_of c.from_residual-in_err-read_u64-in_default.ensures ∙ sym positive_none
    ∙ ap positive c.in_err-read_u64-in_default.ensures
    ∙ sym (signed_other c.args.text.now other)

pub returns-in_ok-read_u64-in_default : goal.returns-in_ok-read_u64-in_default
returns-in_ok-read_u64-in_default c =
    let other : 1 ≤ length c.args.text.now → get_or c.args.text.now 0 0 ≡ 45 → ⊥ = λ h e. elim c.in_default-1.branch [ in_default-via-then-text-lt1 w ↦ let k : length c.args.text.now < 1 = search rules in omega arith | in_default-via-else-text-lt1+in_default-1 w ↦ search rules ] in
    ap optional_of c.ok.ensures.value
    ∙ positive_tried c.in_ok-read_u64-in_default.field-0 c.try_from.result c.try_from.ensures
    ∙ ap positive c.in_ok-read_u64-in_default.ensures
    ∙ sym (signed_other c.args.text.now other)

-- `write_availabilities` meets its contract: its tests are those of `can_copy`, and the places that are used, or were, are copied.
use Prim.Native.Nat.{ℕ, ◌-◌, ◌*◌, max}
use mathlib.Core.Path.{◌≡◌, refl, sym, ap, subst, ◌∙◌}
use mathlib.Core.Bool.{false≢true}
use mathlib.Core.List.{List, [], ◌++◌}
use native.Mathlib.Omega.{arith}
use lib.ListN.{length, take, drop, take-append-drop}
use lib.Seq.{length-take-le}
use borrow.Author.Rules.{rules}
use Rattle.bytes_records.proofs.Parts.{lent}
use Rattle.bytes_records.specs.Moves.{overwrite_rows}
use Rattle.panel_rows.specs.Rows.{availability_width, availability_row}
use Rattle.spec_patch.specs.Sizes.{projection_availabilities}
use Rattle.local_projection_state.specs.Stores.{Stored}
use Rattle.panel_writing.specs.WritingLaws.{overwrite_all}
use Rattle.panel_writing.specs.CopyLaws.{can_copy_lem, copy_many, copy_many_used, other_plan, other_copy, table_copied, table_uncopied, copy_room, copy_stored}
use Rattle.panel_writing.proofs.write_availabilities.Goals as goal

pub returns-then-count-gt-AVAILABILITIES : goal.returns-then-count-gt-AVAILABILITIES
returns-then-count-gt-AVAILABILITIES c =
    let refused = copy_many c.args.count c.args.used c.args.plan.now c.args.to.now c.if-count-gt-AVAILABILITIES.true in
    record { told = sym refused; made = sym (table_uncopied c.args.count c.args.used c.args.plan.now c.args.to.now refused); stores = λ e. absurd (false≢true e) }

pub returns-then-used-gt-AVAILABILITIES : goal.returns-then-used-gt-AVAILABILITIES
returns-then-used-gt-AVAILABILITIES c =
    let refused = copy_many_used c.args.count c.args.used c.args.plan.now c.args.to.now c.if-count-gt-AVAILABILITIES.false c.if-used-gt-AVAILABILITIES.true in
    record { told = sym refused; made = sym (table_uncopied c.args.count c.args.used c.args.plan.now c.args.to.now refused); stores = λ e. absurd (false≢true e) }

pub returns-then-plan-ne-AVAILABILITY_BYTES : goal.returns-then-plan-ne-AVAILABILITY_BYTES
returns-then-plan-ne-AVAILABILITY_BYTES c =
    let refused = other_plan c.args.count c.args.used c.args.plan.now c.args.to.now c.if-count-gt-AVAILABILITIES.false c.if-used-gt-AVAILABILITIES.false c.if-plan-ne-AVAILABILITY_BYTES.true in
    record { told = sym refused; made = sym (table_uncopied c.args.count c.args.used c.args.plan.now c.args.to.now refused); stores = λ e. absurd (false≢true e) }

pub returns-then-to-ne-AVAILABILITY_BYTES : goal.returns-then-to-ne-AVAILABILITY_BYTES
returns-then-to-ne-AVAILABILITY_BYTES c =
    let refused = other_copy c.args.count c.args.used c.args.plan.now c.args.to.now c.if-count-gt-AVAILABILITIES.false c.if-used-gt-AVAILABILITIES.false c.if-plan-ne-AVAILABILITY_BYTES.false c.if-to-ne-AVAILABILITY_BYTES.true in
    record { told = sym refused; made = sym (table_uncopied c.args.count c.args.used c.args.plan.now c.args.to.now refused); stores = λ e. absurd (false≢true e) }

pub returns : goal.returns
returns c =
    let n = max c.args.count c.args.used * availability_width in
    let may = can_copy_lem c.args.count c.args.used c.args.plan.now c.args.to.now c.if-count-gt-AVAILABILITIES.false c.if-used-gt-AVAILABILITIES.false c.if-plan-ne-AVAILABILITY_BYTES.false c.if-to-ne-AVAILABILITY_BYTES.false in
    let room = copy_room c.args.count c.args.used c.args.plan.now c.args.to.now may in
    let size = c.greater-size.result * availability_width - 0 in
    let size_is : size ≡ n = omega (arith, ap (λ (k : ℕ). k * availability_width) c.greater-size.ensures) in
    let plan-long : length (take n c.args.plan.now) ≡ n = length-take-le n c.args.plan.now room.0 in
    let to-long : length (take n c.args.to.now) ≡ n = length-take-le n c.args.to.now room.1 in
    let put = lent c.args.to.now [] (take n c.args.to.now) (drop n c.args.to.now) 0 size (sym (take-append-drop n c.args.to.now)) refl (omega arith) (overwrite_rows (take size c.args.plan.now)) _ c.copy.ensures in
    let is = put ∙ ap (λ (k : ℕ). overwrite_rows (take k c.args.plan.now) (take n c.args.to.now) ++ drop n c.args.to.now) size_is ∙ ap (λ (t : List ℕ). t ++ drop n c.args.to.now) (overwrite_all (take n c.args.plan.now) (take n c.args.to.now) (omega arith)) ∙ sym (table_copied c.args.count c.args.used c.args.plan.now c.args.to.now may) in
    let same : length c.args.plan.now ≡ length c.args.to.now = omega (arith, c.if-plan-ne-AVAILABILITY_BYTES.false, c.if-to-ne-AVAILABILITY_BYTES.false) in
    record { told = sym may; made = is; stores = λ told clear l s. subst (λ (t : List ℕ). Stored availability_row availability_width projection_availabilities c.args.count t l) (sym is) (copy_stored c.args.count c.args.used c.args.plan.now c.args.to.now may same clear l s) }

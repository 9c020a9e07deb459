-- `judgement::judge_patch` meets its contract: the bytes, then what is found, then the room.
use Prim.Native.Nat.{ℕ, ◌+◌}
use mathlib.Core.Path.{◌≡◌, sym, ap, ◌∙◌}
use native.Mathlib.Omega.{arith}
use borrow.Author.Rules.{rules}
use borrow.Author.Tests.{le-leb, lt-leb}
use Rattle.spec_patch.specs.Sizes.{set_bytes}
use Rattle.patch_part_writer.specs.Extent.{head_size}
use Rattle.patch_part_writer.specs.ExtentLaws.{surface_small}
use Rattle.patch_import.specs.Judgement.{judged_patch}
use Rattle.patch_import.proofs.judgement.judge_patch.Goals as goal
use Rattle.patch_import.proofs.judgement.judge_patch.Goals.{After-head_size}

abbrev size : After-head_size → ℕ
size k = 35 + (k.head_size.result + k.args.bytes)

sized : (k : After-head_size) → 35 + (head_size k.args.patch + k.args.bytes) ≡ size k
sized k = ap (λ (n : ℕ). 35 + (n + k.args.bytes)) (sym k.head_size.ensures)

pub overflow_add-size : goal.overflow_add-size
overflow_add-size c = omega (arith, c.head_size.ensures, surface_small c.args.patch.envelope.surface_id)

pub overflow_add-size-2 : goal.overflow_add-size-2
overflow_add-size-2 c = omega (arith, c.head_size.ensures, surface_small c.args.patch.envelope.surface_id)

pub returns-then-size-gt-BYTES : goal.returns-then-size-gt-BYTES
unfolding judged_patch
returns-then-size-gt-BYTES c =
    sym (rw (sized (goal.at.returns-then-size-gt-BYTES c).After-head_size, lt-leb (size (goal.at.returns-then-size-gt-BYTES c).After-head_size) set_bytes c.if-size-gt-BYTES.true))

pub returns-then-is_found : goal.returns-then-is_found
unfolding judged_patch
returns-then-is_found c =
    sym (rw (sized (goal.at.returns-then-is_found c).After-head_size, le-leb (size (goal.at.returns-then-is_found c).After-head_size) set_bytes c.if-size-gt-BYTES.false, sym c.is_found.ensures ∙ c.if-is_found.true))

pub returns-then-room-size : goal.returns-then-room-size
unfolding judged_patch
returns-then-room-size c =
    sym (rw (sized (goal.at.returns-then-room-size c).After-head_size, le-leb (size (goal.at.returns-then-room-size c).After-head_size) set_bytes c.if-size-gt-BYTES.false, sym c.is_found.ensures ∙ c.if-is_found.false, lt-leb (size (goal.at.returns-then-room-size c).After-head_size) _ c.if-room-size.true))

pub returns : goal.returns
unfolding judged_patch
returns c =
    sym (rw (sized (goal.at.returns c).After-head_size, le-leb (size (goal.at.returns c).After-head_size) set_bytes c.if-size-gt-BYTES.false, sym c.is_found.ensures ∙ c.if-is_found.false, le-leb (size (goal.at.returns c).After-head_size) _ c.if-room-size.false))

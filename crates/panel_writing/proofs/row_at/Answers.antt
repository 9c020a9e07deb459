-- `row_at` meets its contract: the rows of a table are few and narrow.
use Prim.Native.Nat.{◌*◌, ◌≤◌}
use mathlib.Core.Path.{ap, ◌∙◌}
use native.Mathlib.Nat.{mul-le-mul}
use native.Mathlib.Omega.{arith}
use borrow.Author.Rules.{rules}
use lib.ListN.{take}
use Rattle.spec_patch.specs.Sizes.{projection_entries}
use Rattle.panel_rows.specs.Rows.{entry_width}
use Rattle.panel_writing.proofs.row_at.Goals as goal

pub overflow_mul-i : goal.overflow_mul-i
overflow_mul-i c =
    let few : c.args.i * c.args.width ≤ projection_entries * entry_width = mul-le-mul c.requires.1 c.requires.0 in
    omega arith

pub returns : goal.returns
returns c = c.key_part.ensures ∙ ap (take c.args.width) c.value_part.ensures

-- `bytes_utf8::character_end` meets its contract: the first byte's class says what follows it.
use Prim.Native.Nat.{◌+◌}
use mathlib.Core.Path.{sym, ◌∙◌}
use native.Mathlib.Omega.{arith}
use borrow.Author.Rules.{rules}
use Rattle.bytes_utf8.specs.Characters.{Reached}
use Rattle.bytes_utf8.proofs.CharacterLaws.{found_length}
use Rattle.bytes_utf8.proofs.Reached.{reached_sequence}
use Rattle.bytes_utf8.proofs.character_end.Goals as goal
use Rattle.bytes_utf8.proofs.character_end.Goals.{In-Some}

passed : (c : In-Some) → Reached c.args.text.now (c.args.from.characters + 1) (c.args.from.at + c.in-Some.length)
passed c =
    let length = found_length c.in-Some.length _ c.in-Some.ensures in
    let byte = (c.type_inv.text c.args.from.at).fits in
    reached_sequence _ _ _ c.requires.1 (omega arith) byte (sym c.if-class_of-lead.false ∙ c.class_of.ensures)
    c.requires.2.2 length.0 length.1

pub overflow_add-result : goal.overflow_add-result
overflow_add-result c = let r = passed c in search rules

pub returns : goal.returns
returns c = (passed (goal.at.returns c).In-Some, omega arith)

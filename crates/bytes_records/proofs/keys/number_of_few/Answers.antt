-- `bytes_records::keys::number_of_few` meets its contract. The invariant: the number is that of the bytes from i on.
use Prim.Native.Nat.{◌-◌, ◌^◌, ◌<◌}
use native.Mathlib.Omega.{arith}
use borrow.Author.Rules.{rules}
use Rattle.spec_lists.specs.Bytes.{Bytes}
use Rattle.spec_lists.proofs.BytesLaws.{bytes_of}
use Rattle.bytes_records.proofs.Numbers.{number_start, number_turn, number_end, rest_small}
use Rattle.bytes_records.proofs.keys.number_of_few.Goals as goal
use Rattle.bytes_records.proofs.keys.number_of_few.Goals.{In-loop-i}

-- there is room for one byte more
small : (c : In-loop-i) → c.loop-i.x < 2 ^ 56
small c =
    let bytes : Bytes c.args.part.now = bytes_of c.args.part.now (λ i. omega (arith, c.type_inv.part i)) in
    omega (arith, rest_small c.args.part.now c.loop-i.i bytes (search rules) (search rules))

pub loop-i-init : goal.loop-i-init
loop-i-init c = (search rules, number_start c.args.part.now)

pub overflow_mul-x : goal.overflow_mul-x
overflow_mul-x c = omega (arith, small c)

pub overflow_add-x : goal.overflow_add-x
overflow_add-x c =
    omega (arith, small (goal.at.overflow_add-x c).In-loop-i, c.type_inv.part (c.loop-i.i - 1))

pub loop-i-preserved : goal.loop-i-preserved
loop-i-preserved c =
    (search rules, omega (arith, number_turn _ c.loop-i.i _ _ (search rules) (search rules) c.loop-i.invariant.1 c.from.ensures))

pub returns : goal.returns
returns c = number_end _ c.loop-i.i _ (search rules) c.loop-i.invariant.1

-- `read_batches` meets its contract. The invariant: the first places are read. The measure is the number of those that are not.
use Prim.Native.Nat.{ℕ, ◌+◌, ◌-◌, ◌*◌, ◌≤◌, min}
use mathlib.Core.Path.{◌≡◌, refl, sym, ap, subst, ◌∙◌}
use mathlib.Core.Bool.{Bool, ◌&&◌}
use mathlib.Core.List.{List}
use native.Mathlib.Nat.{min-le_left, min-le_right}
use native.Mathlib.Omega.{arith}
use borrow.Author.Rules.{rules}
use lib.ListN.{length, get_or, take, drop, length-drop}
use lib.Seq.{length-take-le, get_or-take, get_or-drop}
use Rattle.spec_group.specs.Group.{group_batches}
use Rattle.c_answers.specs.Asked.{is_edition}
use Rattle.c_answers.specs.GroupNumbers.{batch_numbers, batch_of_numbers, numbers_at, batch_count, editions_known}
use Rattle.c_answers.specs.GroupNumbersLaws.{BatchesUpTo, batches_start, batches_turn, batches_named}
use Rattle.c_answers.proofs.groups.read_batches.Goals as goal
use Rattle.c_answers.proofs.groups.read_batches.Goals.{At-loop-place, In-loop-place}

abbrev numbersIn : At-loop-place → List ℕ
numbersIn k = k.args.numbers.now

abbrev usedIn : At-loop-place → ℕ
usedIn k = k.places_used-used.result

used-is : (k : At-loop-place) → usedIn k ≡ min (batch_count (numbersIn k)) group_batches
used-is k = k.places_used-used.ensures

-- there are so many places, and so many batches
places : (k : At-loop-place) → usedIn k ≤ group_batches
places k = subst (λ (n : ℕ). n ≤ group_batches) (sym (used-is k)) (min-le_right (batch_count (numbersIn k)) group_batches)

room : (k : In-loop-place) → k.loop-place.place * batch_numbers + batch_numbers ≤ length (numbersIn (goal.at.In-loop-place k).At-loop-place)
room k =
    let some = subst (λ (n : ℕ). n ≤ batch_count (numbersIn (goal.at.In-loop-place k).At-loop-place)) (sym (used-is (goal.at.In-loop-place k).At-loop-place)) (min-le_left (batch_count (numbersIn (goal.at.In-loop-place k).At-loop-place)) group_batches) in
    omega (arith, some)

-- the numbers of a place are seven
size : (i : ℕ) → (i * batch_numbers + batch_numbers) - i * batch_numbers ≡ batch_numbers
size i = omega arith

seven : (numbers : List ℕ) (i : ℕ) → i * batch_numbers + batch_numbers ≤ length numbers → length (take ((i * batch_numbers + batch_numbers) - i * batch_numbers) (drop (i * batch_numbers) numbers)) ≡ batch_numbers
seven numbers i fits = ap (λ (n : ℕ). length (take n (drop (i * batch_numbers) numbers))) (size i) ∙ length-take-le batch_numbers (drop (i * batch_numbers) numbers) (omega (arith, fits, length-drop (i * batch_numbers) numbers))

-- the sixth of them
sixth : (numbers : List ℕ) (i : ℕ) → get_or numbers (i * batch_numbers + 5) 0 ≡ get_or (numbers_at numbers i) 5 0
sixth numbers i = sym (get_or-take batch_numbers (drop (i * batch_numbers) numbers) 5 0 (omega arith) ∙ get_or-drop (i * batch_numbers) numbers 5 0)

pub loop-place-init : goal.loop-place-init
loop-place-init c = (omega arith, batches_start _ _ refl)

pub overflow_mul-from : goal.overflow_mul-from
overflow_mul-from c = omega (arith, room c)

pub overflow_add-end : goal.overflow_add-end
overflow_add-end c = omega (arith, room c)

pub overflow_add-at : goal.overflow_add-at
overflow_add-at c = omega (arith, room c)

pub bounds-numbers-at : goal.bounds-numbers-at
bounds-numbers-at c = omega (arith, room (goal.at.bounds-numbers-at c).In-loop-place)

pub slice_bounds-batch_of-count : goal.slice_bounds-batch_of-count
slice_bounds-batch_of-count c = omega arith

pub slice_bounds-batch_of-start : goal.slice_bounds-batch_of-start
slice_bounds-batch_of-start c = omega (arith, room (goal.at.slice_bounds-batch_of-start c).In-loop-place)

pub slice_bounds-batch_of-end : goal.slice_bounds-batch_of-end
slice_bounds-batch_of-end c = omega (arith, room (goal.at.slice_bounds-batch_of-end c).In-loop-place)

pub batch_of-requires : goal.batch_of-requires
batch_of-requires c = seven (numbersIn (goal.at.batch_of-requires c).At-loop-place) c.loop-place.place (room (goal.at.batch_of-requires c).In-loop-place)

pub bounds-batches-place : goal.bounds-batches-place
bounds-batches-place c = let few = places (goal.at.bounds-batches-place c).At-loop-place in search (rules, few)

pub loop-place-preserved : goal.loop-place-preserved
loop-place-preserved c =
    let numbers = numbersIn (goal.at.loop-place-preserved c).At-loop-place in
    let few = places (goal.at.loop-place-preserved c).At-loop-place in (
      omega arith,
      batches_turn numbers c.loop-place.invariant.1 (omega (arith, few)) c.batch_of.result
          (c.batch_of.ensures ∙ ap (λ (n : ℕ). batch_of_numbers (take n (drop (c.loop-place.place * batch_numbers) numbers))) (size c.loop-place.place))
          (c.loop-place.known && c.is_edition-known.result)
          (ap (λ (t : Bool). c.loop-place.known && t) (c.is_edition-known.ensures ∙ ap is_edition (sixth numbers c.loop-place.place))),
    )

pub returns : goal.returns
returns c =
    let all : c.loop-place.place ≡ usedIn (goal.at.returns c).At-loop-place = omega (arith, c.loop-place.invariant.0) in
    record { known = c.loop-place.invariant.1.editions ∙ ap (editions_known (numbersIn (goal.at.returns c).At-loop-place)) (all ∙ used-is (goal.at.returns c).At-loop-place); named = batches_named (numbersIn (goal.at.returns c).At-loop-place) (batch_count (numbersIn (goal.at.returns c).At-loop-place)) c.loop-place.invariant.1 (all ∙ used-is (goal.at.returns c).At-loop-place) }

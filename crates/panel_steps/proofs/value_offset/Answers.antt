-- `value_offset` meets its contract, case by case.
use Prim.Native.Nat.{ℕ, ◌+◌}
use mathlib.Core.Path.{◌≡◌, sym, ap, ◌∙◌}
use mathlib.Core.List.{[]}
use mathlib.Core.Option.{none, some}
use native.Mathlib.Omega.{arith}
use borrow.Author.Rules.{rules}
use lib.ListN.{length}
use Rattle.spec_lists.proofs.BytesLaws.{length_little_endian}
use Rattle.spec_patch.specs.Encode.{u64, encode_optional}
use Rattle.projection_patch.specs.Widths.{past_key, past_no_neighbour, past_neighbour}
use Rattle.projection_patch.specs.Meaning.{before_of, operation_of}
use Rattle.projection_patch.specs.declared.patch.ProjectionPatchOperation.{ProjectionPatchOperation}
use Rattle.panel_plan.specs.SetValues.{value_offset}
use Rattle.panel_steps.proofs.value_offset.Goals as goal

abbrev offset : ProjectionPatchOperation → ℕ
offset o = value_offset (operation_of [] o)

no_neighbour : past_key + length (encode_optional none) ≡ past_no_neighbour
unfolding encode_optional
no_neighbour = omega arith

neighbour : (k : ℕ) → past_key + length (encode_optional (some k)) ≡ past_neighbour
unfolding encode_optional
neighbour k = omega (arith, length_little_endian 8 k)

pub returns-in-SetBindingValue : goal.returns-in-SetBindingValue
unfolding value_offset
returns-in-SetBindingValue c = sym (ap offset c.in-SetBindingValue.is)

pub returns-in-SetNodeAvailability : goal.returns-in-SetNodeAvailability
unfolding value_offset
returns-in-SetNodeAvailability c = sym (ap offset c.in-SetNodeAvailability.is)

pub returns-in-None : goal.returns-in-None
unfolding value_offset
returns-in-None c = sym (ap offset c.in-CollectionInsert.is ∙ ap (λ b. past_key + length (encode_optional (before_of b))) c.in-None.is ∙ no_neighbour)

pub returns-in-Some : goal.returns-in-Some
unfolding value_offset
returns-in-Some c = sym (ap offset c.in-CollectionInsert.is ∙ ap (λ b. past_key + length (encode_optional (before_of b))) c.in-Some.is ∙ neighbour _)

pub returns-in-CollectionUpdate : goal.returns-in-CollectionUpdate
unfolding value_offset
returns-in-CollectionUpdate c = sym (ap offset c.in-CollectionUpdate.is)

pub returns-in-CollectionRemove : goal.returns-in-CollectionRemove
unfolding value_offset
returns-in-CollectionRemove c = sym (ap offset c.in-CollectionRemove.is)

pub returns-in-CollectionMove : goal.returns-in-CollectionMove
unfolding value_offset
returns-in-CollectionMove c = sym (ap offset c.in-CollectionMove.is)

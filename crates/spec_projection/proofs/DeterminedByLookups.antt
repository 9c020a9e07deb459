-- A projection in stored order is determined by what its lookups and its collections' lists answer.
use Rattle.std.specs.Prelude.{ℕ, ◌≡◌, refl}
use Rattle.std.proofs.Common.{sym}
use mathlib.Core.List.{head-eq_of_cons-eq, tail-eq_of_cons-eq}
use Rattle.std.proofs.Math.Option.{Option, none, some, map, some-injective, some-ne-none}
use Rattle.spec_lists.specs.Order.{lookup}
use Rattle.spec_lists.proofs.LookupLaws.{ascending_determined}
use Rattle.spec_patch.specs.Patch.{Value, Availability}
use Rattle.spec_projection.specs.Projection.{Binding, NodeAvailability, Projection, binding_key, availability_key}
use Rattle.spec_projection.specs.Lookups.{binding_of, binding_mark, availability_of, availability_mark, entries_of}
use Rattle.spec_projection.specs.Valid.{Ordered}
use Rattle.spec_projection.proofs.Determined.{determined}

-- what a row holds beside its key
abbrev value_and_mark : {A B : Type 0} → (A → B) → (A → ℕ) → A → B × ℕ
value_and_mark value mark a = (value a, mark a)

-- lookups that agree in value and in mark agree in both together
agree : {A B : Type 0} (value : A → B) (mark : A → ℕ) (x y : Option A) → map value x ≡ map value y → map mark x ≡ map mark y
    → map (value_and_mark value mark) x ≡ map (value_and_mark value mark) y
agree value mark none none v m = refl
agree value mark none (some b) v m = absurd (some-ne-none (value b) (sym v))
agree value mark (some a) none v m = absurd (some-ne-none (value a) v)
agree value mark (some a) (some b) v m = λ i. some (some-injective (value a) (value b) v i, some-injective (mark a) (mark b) m i)

binding_equal : (x y : Binding) → binding_key x ≡ binding_key y → ◌≡◌ {A = Value × ℕ} (x.value, x.mark) (y.value, y.mark) → x ≡ y
unfolding binding_key
binding_equal x y k v = λ i. record { node = head-eq_of_cons-eq k i; slot = head-eq_of_cons-eq (tail-eq_of_cons-eq k) i; mark = (v i).1; value = (v i).0 }

availability_equal : (x y : NodeAvailability) → availability_key x ≡ availability_key y → ◌≡◌ {A = Availability × ℕ} (x.availability, x.mark) (y.availability, y.mark) → x ≡ y
unfolding availability_key
availability_equal x y k v = λ i. record { node = head-eq_of_cons-eq k i; mark = (v i).1; availability = (v i).0 }

-- by its lookups and each collection's entries in order
pub determined_by_lookups : (p q : Projection) → Ordered p → Ordered q
    → ((node slot : ℕ) → binding_of p node slot ≡ binding_of q node slot)
    → ((node slot : ℕ) → binding_mark p node slot ≡ binding_mark q node slot)
    → ((node : ℕ) → availability_of p node ≡ availability_of q node)
    → ((node : ℕ) → availability_mark p node ≡ availability_mark q node)
    → ((c : ℕ) → entries_of p c ≡ entries_of q c)
    → p ≡ q
unfolding binding_of binding_mark availability_of availability_mark binding_key availability_key
determined_by_lookups p q v w b m a n e =
    determined p q v w
    (ascending_determined binding_key (value_and_mark (λ (x : Binding). x.value) (λ (x : Binding). x.mark)) binding_equal p.bindings q.bindings v.bindings w.bindings
    (λ x. agree (λ (y : Binding). y.value) (λ (y : Binding). y.mark) (lookup binding_key (binding_key x) p.bindings) (lookup binding_key (binding_key x) q.bindings) (b x.node x.slot) (m x.node x.slot)))
    (ascending_determined availability_key (value_and_mark (λ (x : NodeAvailability). x.availability) (λ (x : NodeAvailability). x.mark)) availability_equal p.availabilities q.availabilities v.availabilities w.availabilities
    (λ x. agree (λ (y : NodeAvailability). y.availability) (λ (y : NodeAvailability). y.mark) (lookup availability_key (availability_key x) p.availabilities) (lookup availability_key (availability_key x) q.availabilities) (a x.node) (n x.node)))
    e

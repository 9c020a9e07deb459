-- What is found of an operation or an envelope that was read: where a text stands does not matter.
use Rattle.std.specs.Prelude.{ℕ, ◌≡◌, refl, List}
use Rattle.std.proofs.Math.Option.{Option, none, some}
use Rattle.spec_patch.specs.Patch.{Envelope, Operation, set_binding, set_availability, insert, update, remove, move}
use Rattle.spec_checks.specs.Target.{mutation_target}
use Rattle.spec_checks.specs.PatchChecks.{is_self, before_self_lem}
use Rattle.projection_patch.specs.Meaning.{surface_to, envelope_to, operation_to, surface_of, envelope_of, operation_of}

pub target_told : (texts : List ℕ) (end : ℕ) (o : Operation) → mutation_target (operation_of texts (operation_to end o)) ≡ mutation_target o
unfolding mutation_target
target_told texts end (set_binding n s v) = refl
target_told texts end (set_availability n a) = refl
target_told texts end (insert c k b v) = refl
target_told texts end (update c k v) = refl
target_told texts end (remove c k) = refl
target_told texts end (move c k b) = refl

pub self_told : (texts : List ℕ) (end : ℕ) (o : Operation) → before_self_lem (operation_of texts (operation_to end o)) ≡ before_self_lem o
unfolding before_self_lem is_self
self_told texts end (set_binding n s v) = refl
self_told texts end (set_availability n a) = refl
self_told texts end (insert c k none v) = refl
self_told texts end (insert c k (some b) v) = refl
self_told texts end (update c k v) = refl
self_told texts end (remove c k) = refl
self_told texts end (move c k none) = refl
self_told texts end (move c k (some b)) = refl

surface_back : (s : Option ℕ) → surface_of (surface_to s) ≡ s
surface_back none = refl
surface_back (some n) = refl

pub envelope_back : (e : Envelope) → envelope_of (envelope_to e) ≡ e
envelope_back e = let same = surface_back e.surface in
    λ i. record { id = e.id; stream = e.stream; document = e.document; surface = same i; previous = e.previous; revision = e.revision; epoch = e.epoch; sequence = e.sequence }

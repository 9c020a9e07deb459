-- What a run leaves: the list of each collection follows from that collection's operations alone, bindings and availabilities from what is
-- set. No other order of the operations is run on the way.
use Rattle.std.specs.Prelude.{◌≡◌, refl, ◌≢◌, true, List, [], ◌∷◌, if◌then◌else◌}
use Rattle.std.proofs.Common.{ap, ◌∙◌, subst, arith}
use Rattle.std.proofs.Math.Option.{Option, none, some}
use Rattle.spec_patch.specs.Patch.{Operation, set_binding, set_availability, insert, update, remove, move}
use Rattle.spec_projection.specs.Projection.{Projection, binding_key, availability_key}
use Rattle.spec_projection.specs.Lookups.{KeyedValue}
use Rattle.spec_projection.specs.Apply.{done, apply_operation}
use Rattle.spec_projection.proofs.ApplyLaws.{done_injective, and_then_done}
use Rattle.spec_projection.specs.Valid.{Ordered}
use Rattle.spec_projection.proofs.ValidLaws.{apply_operation_ordered}
use Rattle.spec_projection.specs.Effects.{Target, binding_target, node_target, collection_target, target_of, collection_after}
use Rattle.spec_projection.proofs.EffectsLaws.{own_collection, other_collections}
use Rattle.spec_operation_order.specs.FreeOrder.{operations_on, apply_operations}
use Rattle.spec_operation_order.proofs.FreeOrderLaws.{target_cases, on_own, on_other}
use Rattle.spec_operation_order.specs.Verdict.{keys_fit, values_at, sets_binding, sets_availability, FitsCapacities, Leaves, Verdict}
use Rattle.spec_operation_order.proofs.VerdictLaws.{verdict}
use Rattle.spec_operation_order.proofs.Rows.{put_all}

-- a collection's list after its operations, or none where a key or a neighbour does not fit
unfoldable pub list_after : List KeyedValue → List Operation → Option (List KeyedValue)
list_after l [] = some l
list_after l (o ∷ os) = if keys_fit l o then list_after (collection_after 0 o l) os else none

-- what an operation leaves at its own target, and at others
pub own_list : (p : Projection) (o : Operation) (q : Projection) → Ordered p → apply_operation p 0 o ≡ done q → values_at q (target_of o) ≡ collection_after 0 o (values_at p (target_of o))
unfolding target_of collection_after
own_list p (set_binding n s v) q w h = refl
own_list p (set_availability n a) q w h = refl
own_list p (insert c k before v) q w h = own_collection p 0 (insert c k before v) q c w.entries h refl
own_list p (update c k v) q w h = own_collection p 0 (update c k v) q c w.entries h refl
own_list p (remove c k) q w h = own_collection p 0 (remove c k) q c w.entries h refl
own_list p (move c k before) q w h = own_collection p 0 (move c k before) q c w.entries h refl

pub other_list : (p : Projection) (o : Operation) (q : Projection) (t : Target) → apply_operation p 0 o ≡ done q → target_of o ≢ t → values_at q t ≡ values_at p t
other_list p o q (binding_target node slot) h n = refl
other_list p o q (node_target node) h n = refl
other_list p o q (collection_target c) h n = other_collections p 0 o q h c n

-- the lists before the rest of a run, from those before the whole
pub rest_after : (p : Projection) (o : Operation) (os : List Operation) (q : Projection) (t : Target) → Ordered p → apply_operation p 0 o ≡ done q
    → list_after (values_at p t) (operations_on t (o ∷ os)) ≡ list_after (values_at q t) (operations_on t os)
unfolding list_after
rest_after p o os q t w h = target_cases (target_of o) t
    (λ e. let fit : keys_fit (values_at p t) o ≡ true = rw e at (subst (Verdict p o) h (verdict p o)).fit in
    let own : values_at q t ≡ collection_after 0 o (values_at p t) = rw e at (own_list p o q w h) in
    rw (on_own t o os e, fit, own))
    (λ n. rw (on_other t o os n, other_list p o q t h n))

pub record Ran (p : Projection) (os : List Operation) (q : Projection) : Type 0 where
  pub ordered : Ordered q
  pub lists : (t : Target) → list_after (values_at p t) (operations_on t os) ≡ some (values_at q t)
  pub bindings : q.bindings ≡ put_all binding_key sets_binding p.bindings os
  pub availabilities : q.availabilities ≡ put_all availability_key sets_availability p.availabilities os
  pub fits : FitsCapacities p → FitsCapacities q

pub ran : (p : Projection) (os : List Operation) (q : Projection) → Ordered p → apply_operations p os ≡ done q → Ran p os q
unfolding apply_operations operations_on list_after put_all
ran p [] q w h = subst (Ran p []) (done_injective h) (record { ordered = w; lists = λ t. refl; bindings = refl; availabilities = refl; fits = λ f. f })
ran p (o ∷ os) q w h =
    let (r, first, others) = and_then_done (apply_operation p 0 o) (λ r. apply_operations r os) q h in
    let s : Leaves p o r = subst (Verdict p o) first (verdict p o) in
    let later = ran r os q (apply_operation_ordered p 0 o r w first) others in
    record {
      ordered = later.ordered;
      lists = λ t. rest_after p o os r t w first ∙ later.lists t;
      bindings = later.bindings ∙ ap (λ l. put_all binding_key sets_binding l os) s.bindings;
      availabilities = later.availabilities ∙ ap (λ l. put_all availability_key sets_availability l os) s.availabilities;
      fits = λ f. let place = s.place f in
          later.fits (record { bindings = rw s.bindings place.bindings; availabilities = rw s.availabilities place.availabilities; entries = omega (arith, s.entries, place.entries) });
    }

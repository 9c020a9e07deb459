-- The plan of a valid projection is valid, and planned operations fit: what the tables' contracts ask of a projection holds of a plan.
use Prim.Native.Nat.{ℕ, suc, ◌+◌, ◌≤◌, ◌<◌}
use Rattle.std.specs.Prelude.{◌≡◌, true, length}
use Rattle.std.proofs.Math.Path.{refl, ap}
use mathlib.Core.List.{List, [], ◌∷◌}
use Rattle.std.proofs.Common.{arith}
use Rattle.spec_lists.specs.Lists.{All}
use Rattle.spec_lists.specs.Order.{lex_less, Ascending}
use Rattle.spec_patch.specs.Sizes.{projection_entries}
use Rattle.spec_patch.specs.Patch.{Value, unsigned, Operation, set_binding, set_availability, insert, update, remove, move}
use Rattle.spec_patch.specs.Edition.{Edition, kinds, has_kind}
use Rattle.spec_patch.specs.Encode.{kind_of}
use Rattle.spec_patch.specs.Fits.{U64, StorableBy, FitsValue, OperationHolds, FitsOperation}
use Rattle.spec_projection.specs.Projection.{Entry, Projection, binding_key}
use Rattle.spec_projection.specs.Entries.{is_entry}
use Rattle.spec_projection.specs.Valid.{Behind, Grouped, FitsBinding, FitsEntry, Valid}
use Rattle.panel_plan.specs.Plan.{old, numbered, binding_with, entry_with, plan_of, with_source}

module _ {A : Type 0} (put : A → Value → A) where
  numbered_length : (i : ℕ) (l : List A) → length (numbered put i l) ≡ length l
  unfolding numbered
  numbered_length i [] = refl
  numbered_length i (x ∷ l) = ap suc (numbered_length (suc i) l)

  pub numbered_all : (P Q : A → Type 0) (n : ℕ) → ((x : A) (i : ℕ) → i < n → P x → Q (put x (old i))) → (i : ℕ) (l : List A) → i + length l ≤ n → All P l → All Q (numbered put i l)
  unfolding numbered
  numbered_all P Q n each i [] few h = tt
  numbered_all P Q n each i (x ∷ l) few h = (each x i (omega arith) h.0, numbered_all P Q n each (suc i) l (omega arith) h.1)

  -- keys are not changed
  numbered_ascending : (key : A → List ℕ) → ((x : A) (v : Value) → key (put x v) ≡ key x)
      → (i : ℕ) (l : List A) → i + length l ≤ projection_entries → Ascending key l → Ascending key (numbered put i l)
  unfolding numbered
  numbered_ascending key same i [] few h = tt
  numbered_ascending key same i (x ∷ l) few h = (
    numbered_all (λ y. lex_less (key x) (key y) ≡ true) (λ y. lex_less (key (put x (old i))) (key y) ≡ true) projection_entries (λ y j _ less. rw (same x (old i), same y (old j)) less) (suc i) l (omega arith) h.0,
    numbered_ascending key same (suc i) l (omega arith) h.1,
  )

numbered_grouped : (i : ℕ) (l : List Entry) → i + length l ≤ projection_entries → Grouped l → Grouped (numbered entry_with i l)
unfolding numbered entry_with is_entry
numbered_grouped i [] few h = tt
numbered_grouped i (x ∷ l) few h = (
  numbered_all entry_with (Behind x) (Behind (entry_with x (old i))) projection_entries (λ y j _ b. record { collection = b.collection; other = b.other }) (suc i) l (omega arith) h.0,
  numbered_grouped (suc i) l (omega arith) h.1,
)

pub plan_valid : (p : Projection) → Valid p → Valid (plan_of p)
unfolding plan_of binding_key binding_with entry_with old StorableBy
plan_valid p v = record {
  bindings = numbered_ascending binding_with binding_key (λ b v. refl) 0 p.bindings (omega (arith, v.few_bindings)) v.bindings;
  availabilities = v.availabilities;
  entries = numbered_grouped 0 p.entries (omega (arith, v.few_entries)) v.entries;
  few_bindings = rw (numbered_length binding_with 0 p.bindings) v.few_bindings;
  few_availabilities = v.few_availabilities;
  few_entries = rw (numbered_length entry_with 0 p.entries) v.few_entries;
  fit_bindings = numbered_all binding_with FitsBinding FitsBinding projection_entries (λ b i h f. record { node = f.node; slot = f.slot; mark = f.mark; value = omega arith }) 0 p.bindings (omega (arith, v.few_bindings)) v.fit_bindings;
  fit_availabilities = v.fit_availabilities;
  fit_entries = numbered_all entry_with FitsEntry FitsEntry projection_entries (λ e i h f. record { collection = f.collection; key = f.key; mark = f.mark; value = omega arith }) 0 p.entries (omega (arith, v.few_entries)) v.fit_entries;
}

-- ---- planned operations

-- an operation whose value has a property, with a source that then has one
pub holds_with : (P Q : Value → Type 0) (source : Value) (o : Operation) → ((v : Value) → P v → Q source) → OperationHolds P o → OperationHolds Q (with_source source o)
unfolding with_source OperationHolds
holds_with P Q source (set_binding n s v) g h = (h.0, (h.1.0, g v h.1.1))
holds_with P Q source (set_availability n a) g h = h
holds_with P Q source (insert c k before v) g h = (h.0, (h.1.0, (h.1.1.0, g v h.1.1.1)))
holds_with P Q source (update c k v) g h = (h.0, (h.1.0, g v h.1.1))
holds_with P Q source (remove c k) g h = h
holds_with P Q source (move c k before) g h = h

-- a source is a number, which every edition has
pub planned_fits : (ed : Edition) (n : ℕ) (o : Operation) → U64 n → FitsOperation ed o → FitsOperation ed (with_source (unsigned n) o)
unfolding StorableBy kinds has_kind kind_of
planned_fits ed n o h f = holds_with (FitsValue ed) (FitsValue ed) (unsigned n) o (λ v _. record { kind = refl; storable = h }) f

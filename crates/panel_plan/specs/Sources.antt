-- The sources of a plan that stand for a value: a row that the table before the batch has, whose ids and mark are the plan's, or a position of the
-- set where a value's bytes begin.
use Rattle.std.specs.Prelude.{ℕ, ◌<◌, ◌≡◌, List, [], ◌++◌, map, length, drop, get_or}
use Rattle.spec_lists.specs.Lists.{All}
use Rattle.spec_patch.specs.Patch.{Value}
use Rattle.spec_patch.specs.Edition.{Edition}
use Rattle.spec_patch.specs.Encode.{u32, u64, encode_value}
use Rattle.spec_patch.specs.Fits.{FitsValue}
use Rattle.spec_projection.specs.Projection.{Binding, Entry, Projection}
use Rattle.panel_plan.specs.Plan.{old, new}

-- what stands before a row's value: the ids and the mark
abbrev pub binding_front : Binding → List ℕ
binding_front b = u64 b.node ++ (u32 b.slot ++ u64 b.mark)

abbrev pub entry_front : Entry → List ℕ
entry_front e = u64 e.collection ++ (u64 e.key ++ u64 e.mark)

-- of a row's front and its source, with the fronts of the table before the batch
pub data Sourced (ed : Edition) (fronts : List (List ℕ)) (set : List ℕ) : List ℕ → Value → Type 0 where
  from_row : (i : ℕ) → i < length fronts → Sourced ed fronts set (get_or fronts i []) (old i)
  from_set : (front : List ℕ) (at : ℕ) (v : Value) (rest : List ℕ) → FitsValue ed v → drop at set ≡ encode_value v ++ rest → Sourced ed fronts set front (new at)

-- of a batch on p
abbrev pub SourcedBinding : Edition → Projection → List ℕ → Binding → Type 0
SourcedBinding ed p set b = Sourced ed (map binding_front p.bindings) set (binding_front b) b.value

abbrev pub SourcedEntry : Edition → Projection → List ℕ → Entry → Type 0
SourcedEntry ed p set e = Sourced ed (map entry_front p.entries) set (entry_front e) e.value

pub record SourcedPlan (ed : Edition) (p : Projection) (set : List ℕ) (plan : Projection) : Type 0 where
  pub bindings : All (SourcedBinding ed p set) plan.bindings
  pub entries : All (SourcedEntry ed p set) plan.entries

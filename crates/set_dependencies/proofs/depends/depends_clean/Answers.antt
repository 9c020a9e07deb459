-- `depends_clean` meets its contract: a readable set is opened, walked, and its table listed.
use Prim.Native.Nat.{ℕ, ◌≤◌}
use mathlib.Core.Path.{◌≡◌, sym, ap, ◌∙◌, subst}
use mathlib.Core.List.{List, []}
use borrow.Author.Rules.{rules}
use lib.ListN.{length}
use Rattle.spec_lists.specs.Bytes.{Bytes}
use Rattle.spec_lists.proofs.BytesLaws.{bytes_of}
use Rattle.spec_patch.specs.Sizes.{set_bytes}
use Rattle.spec_patch.specs.Patch.{Patch}
use Rattle.spec_patch.specs.Edition.{Edition}
use Rattle.spec_patch.specs.Read.{patches, read_set}
use Rattle.spec_patch.proofs.SetLaws.{was_encoded}
use Rattle.spec_dependencies.specs.Dependencies.{SettlingWalk, settles, contradicts, settle_patches, dependencies_by, dependencies}
use Rattle.spec_dependencies.specs.Settled.{Settled}
use Rattle.spec_dependencies.specs.Answer.{answer_by}
use Rattle.projection_patch.specs.Meaning.{edition_of}
use Rattle.patch_walk.proofs.StepsLaws.{opened_at, never_unopened}
use Rattle.set_dependencies.specs.SettledRows.{SettledTable, SettledIn}
use Rattle.set_dependencies.specs.SettledRowsLaws.{start_within, settled_rows_lem, none_settled}
use Rattle.set_dependencies.specs.SetSettling.{SetSettlesTo}
use Rattle.set_dependencies.specs.DependsAnswers.{depends_answer_to}
use Rattle.std.specs.Prelude as code
use Rattle.set_dependencies.specs.DependsLaws.{settled_walk, stopped_walk}
use Rattle.set_dependencies.specs.declared.settled_rows.SettledPlaces.{SettledPlaces}
use Rattle.set_dependencies.specs.declared.walk_set.SettlingStop.{SettlingStop}
use Rattle.set_dependencies.proofs.depends.depends_clean.Goals as goal
use Rattle.set_dependencies.proofs.depends.depends_clean.Goals.{After-open_set-opened, After-settle_steps}

abbrev set : After-open_set-opened → List ℕ
set c = c.args.set.now

abbrev edition : After-open_set-opened → Edition
edition c = edition_of c.args.edition

all_bytes : (c : After-open_set-opened) → Bytes (set c)
all_bytes c = bytes_of (set c) (λ j. (c.type_inv.set j).fits)

short : (c : After-open_set-opened) (ps : List Patch) → read_set (edition c) (set c) ≡ patches ps → length (set c) ≤ set_bytes
short c ps e = let was = was_encoded (edition c) (set c) ps (all_bytes c) e in subst (λ (l : List ℕ). length l ≤ set_bytes) (sym was.0) was.1.short

abbrev opening : After-settle_steps → After-open_set-opened
opening k = (goal.at.After-settle_steps k).After-open_set-opened

-- what the walk over a readable set gave
walked : (k : After-settle_steps) (r : code.Result SettledPlaces SettlingStop) → k.settle_steps.result ≡ r → (ps : List Patch) → read_set (edition (opening k)) (set (opening k)) ≡ patches ps
    → SetSettlesTo (settle_patches 0 ps []) r k.settle_steps.new.table
walked k r is ps e =
    subst (λ x. SetSettlesTo (settle_patches 0 ps []) x k.settle_steps.new.table) is
    (k.settle_steps.ensures ps (short (opening k) ps e) (opened_at (edition (opening k)) (set (opening k)) (all_bytes (opening k)) ps e k.open_set-opened.ensures _ k.in-Ok.is) none_settled)

pub returns-in-Ok-settle_steps : goal.returns-in-Ok-settle_steps
unfolding dependencies
returns-in-Ok-settle_steps c =
    let k = (goal.at.returns-in-Ok-settle_steps c).After-settle_steps in
    let settled = λ (ps : List Patch) (e : read_set (edition (opening k)) (set (opening k)) ≡ patches ps). settled_walk c.settle_steps.new.table (settle_patches 0 ps []) _ (walked k _ c.in-Ok-settle_steps.is ps e) in
    let listed : (t : List Settled) → SettledIn c.in-Ok-settle_steps.places c.settle_steps.new.table t → SettledTable c.in-Ok-settle_steps.places.count c.rows_from.result.now t =
    λ t s. subst (λ (l : List ℕ). SettledTable c.in-Ok-settle_steps.places.count l t) (sym (c.rows_from.ensures (start_within s.rows))) (settled_rows_lem s) in
    record {
      answered = λ ps e. let w = settled ps e in c.list_keys.ensures.answered w.0 (listed _ w.2) ∙ ap (λ (x : SettlingWalk). depends_answer_to (answer_by (dependencies_by x) c.args.out.now).answer) (sym w.1);
      written = λ ps e. let w = settled ps e in c.list_keys.ensures.written w.0 (listed _ w.2) ∙ ap (λ (x : SettlingWalk). (answer_by (dependencies_by x) c.args.out.now).output) (sym w.1);
    }

pub returns-in-Err-settle_steps : goal.returns-in-Err-settle_steps
unfolding dependencies
returns-in-Err-settle_steps c =
    let k = (goal.at.returns-in-Err-settle_steps c).After-settle_steps in
    let ends = λ (ps : List Patch) (e : read_set (edition (opening k)) (set (opening k)) ≡ patches ps). stopped_walk c.settle_steps.new.table (settle_patches 0 ps []) c.in-Err-settle_steps.stop (walked k _ c.in-Err-settle_steps.is ps e) c.args.out.now in
    record { answered = λ ps e. c.stopped.ensures ∙ (ends ps e).0; written = λ ps e. (ends ps e).1 }

-- a readable set is opened
pub returns-in-Err : goal.returns-in-Err
returns-in-Err c =
    let here = (goal.at.returns-in-Err c).After-open_set-opened in
    let never : (ps : List Patch) → read_set (edition here) (set here) ≡ patches ps → ⊥ = λ ps e. never_unopened (edition here) (set here) (all_bytes here) ps e c.open_set-opened.ensures _ c.in-Err.is in
    record { answered = λ ps e. absurd (never ps e); written = λ ps e. absurd (never ps e) }

-- The steps by what they look at are the steps of a batch.
use Rattle.std.specs.Prelude.{ℕ, ◌+◌, ◌≡◌, Bool, ◌&&◌, ◌||◌, leb, eqb, length, if◌then◌else◌, Result, Err}
use Rattle.std.specs.Result.{IsErrAnd}
use Rattle.std.proofs.lemmas.Result.{err_from_is_err_and}
use Rattle.std.proofs.Math.Path.{refl, sym, ap, ap₂}
use Rattle.std.proofs.Common.{◌∙◌, length-append}
use Rattle.std.proofs.Math.Bool.{true, false, not}
use mathlib.Core.List.{List, [], ◌∷◌, flat_map}
use Rattle.spec_lists.specs.Lists.{is_empty}
use Rattle.spec_patch.specs.Patch.{Patch}
use Rattle.spec_patch.specs.Edition.{Edition}
use Rattle.spec_patch.specs.Reader.{Fault}
use Rattle.spec_patch.specs.Read.{SetReading, patches, fault, read_set}
use Rattle.spec_checks.specs.Findings.{findings}
use Rattle.spec_projection.specs.Apply.{operations_of}
use Rattle.spec_session.specs.Session.{Cursor, Limits, Session}
use Rattle.spec_session.specs.Diagnostics.{SessionRefusal, session_mismatch, session_closed, limit_exceeded, counts_differ, cursor_mismatch, checks_failed, of_reading}
use Rattle.spec_session.specs.Lifecycle.{is_closed}
use Rattle.spec_session.specs.Batch.{BatchEnvelope, Check, pass, refuse, ◌>>=◌, ◌>>◌, require, readable, absent_targets, known_targets, takes_number, batch_checks}
use Rattle.projection_patch.specs.FaultLaws.{fault_back}
use Rattle.patch_sets.specs.SetAnswers.{operation_count_lem}
use Rattle.check_findings.specs.Found.{is_found}
use Rattle.check_quick.specs.Anchors.{anchored, absent_of}
use Rattle.check_quick.specs.QuickAnswers.{inspected_by, inspection_answer}
use Rattle.std.specs.Prelude as code
use Rattle.projection_patch.specs.declared.read_values.ProjectionPatchReadFault.{ProjectionPatchReadFault}
use Rattle.check_quick.specs.declared.inspection.SetInspection.{SetInspection}
use Rattle.check_quick.specs.declared.inspection.SetInspection.TheVariants as inspection
use Rattle.session_lifecycle.specs.Meaning.{refusal_of, lifecycle_of, cursor_of, limits_of}
use Rattle.session_lifecycle.specs.declared.diagnostics.ShellRefusal.{ShellRefusal}
use Rattle.session_gates.specs.declared.gates.GateRefusal.{GateRefusal}
use Rattle.session_lifecycle.specs.declared.state.ShellLifecycleLimits.{ShellLifecycleLimits}
use Rattle.session_lifecycle.specs.declared.state.ShellLocalState.{ShellLocalState}
use Rattle.session_gates.specs.Gates as gates
use Rattle.session_gates.specs.Gates.{gate_of, one_refusal, preflight_by, counts_by, replay_by, targets_by, inspection_by, erased, Decides}
use Rattle.session_gates.proofs.CountedLaws.{steps_counted}
use Rattle.session_gates.specs.Lent.{Lent}
use Rattle.session_gates.proofs.LentLaws.{absent_is}
use Rattle.session_gates.specs.Seen.{Seen}

-- tests one after the other
then_assoc : (a b c : Check (Unit {0})) → ((a >> b) >> c) ≡ (a >> (b >> c))
then_assoc (pass u) b c = refl
then_assoc (refuse r n) b c = refl

erased_then : (a : Check (Unit {0})) (c : Check (List Patch)) → erased (a >> c) ≡ (a >> erased c)
erased_then (pass u) c = refl
erased_then (refuse r n) c = refl

unit_then : (a : Check (Unit {0})) → (a >> pass tt) ≡ a
unit_then (pass u) = refl
unit_then (refuse r n) = refl

-- a set that does not read is refused, and one that does goes on
erased_reading : (x : SetReading) (f : List Patch → Check (List Patch)) (g : SetReading → Check (Unit {0})) → ((ps : List Patch) → erased (f ps) ≡ g (patches ps)) → ((k : Fault) → refuse (of_reading k) 1 ≡ g (fault k)) → erased (readable x >>= f) ≡ g x
unfolding readable
erased_reading (patches ps) f g h k = h ps
erased_reading (fault r) f g h k = k r

pub operations_counted : (ps : List Patch) → operation_count_lem ps ≡ length (operations_of ps)
unfolding operation_count_lem operations_of flat_map
operations_counted [] = refl
operations_counted (p ∷ ps) = ap (λ n. length p.operations + n) (operations_counted ps) ∙ sym (length-append p.operations (operations_of ps))

module _ (s : Session) (nodes bindings collections : List ℕ) (lent : Lent s.catalogue nodes bindings collections) (e : BatchEnvelope) (declared : ℕ) where
  -- what steps 4 to 8 answer to a reading
  abbrev answer : SetReading → Check (Unit {0})
  answer x = inspection_by s.limits s.cursor e declared (inspection_answer nodes bindings collections x)

  abbrev own : Check (Unit {0})
  own = require (eqb e.session s.id) session_mismatch

  abbrev open' : Check (Unit {0})
  open' = require (not (is_closed s.lifecycle)) session_closed

  abbrev within : Check (Unit {0})
  within = require (leb e.patches s.limits.patches && leb e.stimulus_bytes s.limits.stimulus_bytes) limit_exceeded

  abbrev taken : Check (Unit {0})
  taken = require (eqb e.patches 0 || takes_number s.cursor e.sequence) cursor_mismatch

  module _ (ps : List Patch) where
    abbrev clean : Check (Unit {0})
    clean = require (is_empty (findings ps).found) checks_failed

    abbrev counted : Check (Unit {0})
    counted = require (eqb e.patches (length ps) && eqb declared (length (operations_of ps))) counts_differ

    abbrev few : Check (Unit {0})
    few = require (leb (length (operations_of ps)) s.limits.references) limit_exceeded

    abbrev known : Check (Unit {0})
    known = known_targets (absent_targets s.catalogue (operations_of ps))

    -- steps 5 to 8 are told by the counts
    counts_are : erased (counted >> (few >> (known >> (taken >> pass ps)))) ≡ (counts_by s.limits e declared (length ps) (operation_count_lem ps) >> targets_by (absent_of (anchored nodes bindings collections) (operations_of ps)) s.cursor e)
    unfolding counts_by targets_by replay_by
    counts_are =
        erased_then counted _
        ∙ ap (λ c. counted >> c) (erased_then few _ ∙ ap (λ c. few >> c) (erased_then known _ ∙ ap (λ c. known >> c) (erased_then taken _ ∙ unit_then taken)))
        ∙ sym (then_assoc counted few (known >> taken))
        ∙ ap₂ (λ n k. (counts_by s.limits e declared (length ps) n) >> (known_targets k >> taken)) (sym (operations_counted ps)) (sym (absent_is s.catalogue nodes bindings collections lent (operations_of ps)))

    patches_are : erased (clean >> (counted >> (few >> (known >> (taken >> pass ps))))) ≡ answer (patches ps)
    unfolding inspection_by inspected_by is_found require
    patches_are = go (is_empty (findings ps).found)
      where
        go : (t : Bool) → erased (require t checks_failed >> (counted >> (few >> (known >> (taken >> pass ps))))) ≡ inspection_by s.limits s.cursor e declared (code.Ok (if not t then inspection.Found else inspection.Clean (length ps) (operation_count_lem ps) (absent_of (anchored nodes bindings collections) (operations_of ps))))
        go true = counts_are
        go false = refl

  checks_are : (ed : Edition) (set : List ℕ) → erased (batch_checks ed s e declared set) ≡ (preflight_by s.id s.limits s.lifecycle e >> answer (read_set ed set))
  unfolding batch_checks preflight_by inspection_by inspected_by
  checks_are ed set =
      let rest = answer (read_set ed set) in
      let reading = erased_reading (read_set ed set) _ answer patches_are (λ k. ap (λ m. refuse (of_reading m) 1) (sym (fault_back k))) in
      erased_then own _
      ∙ ap (λ c. own >> c) (erased_then open' _ ∙ ap (λ c. open' >> c) (erased_then within _ ∙ ap (λ c. within >> c) reading) ∙ sym (then_assoc open' within rest))
      ∙ sym (then_assoc own (open' >> within) rest)

-- ---- by what the code sees of a session

module _ (ed : Edition) (id : ℕ) (limits : ShellLifecycleLimits) (state : ShellLocalState) (nodes bindings collections : List ℕ) (e : BatchEnvelope) (declared : ℕ) (set : List ℕ) where
  abbrev behind : Check (Unit {0})
  behind = inspection_by (limits_of limits) (cursor_of state.replay_cursor) e declared (inspection_answer nodes bindings collections (read_set ed set))

  abbrev steps_seen : Check (Unit {0})
  steps_seen = preflight_by id (limits_of limits) (lifecycle_of state.lifecycle) e >> behind

  steps_are : (s : Session) → Seen s id limits state nodes bindings collections → steps_seen ≡ erased (batch_checks ed s e declared set)
  steps_are s seen =
      let i = inspection_answer nodes bindings collections (read_set ed set) in
      (λ j. preflight_by (seen.id_is j) (seen.limits_are j) (seen.lifecycle_is j) e >> inspection_by (seen.limits_are j) (seen.cursor_is j) e declared i)
      ∙ sym (checks_are s nodes bindings collections seen.anchors_are e declared ed set)

  -- an answer by these steps is that of the batch, its count fits, and the preflight's refusal decides
  abbrev ByBatch : Check (Unit {0}) → Type 0
  ByBatch answer = ((s : Session) → Seen s id limits state nodes bindings collections → answer ≡ erased (batch_checks ed s e declared set))
      × ((gates.check_counted answer ≡ true) × Decides (preflight_by id (limits_of limits) (lifecycle_of state.lifecycle) e) answer)

  by_steps : (answer : Check (Unit {0})) → answer ≡ steps_seen → ByBatch answer
  by_steps answer is = (λ s seen. is ∙ steps_are s seen, (ap gates.check_counted is ∙ steps_counted _ _ _ _ _ _ _, λ r n h. is ∙ ap (λ c. c >> behind) h))

  pub preflight_refused : (answer : Check (Unit {0})) (r : SessionRefusal) (n : ℕ) → answer ≡ refuse r n → refuse r n ≡ preflight_by id (limits_of limits) (lifecycle_of state.lifecycle) e → ByBatch answer
  preflight_refused answer r n is h = by_steps answer (is ∙ ap (λ c. c >> behind) h)

  pub preflight_passed : (answer : Check (Unit {0})) → pass tt ≡ preflight_by id (limits_of limits) (lifecycle_of state.lifecycle) e → (i : code.Result SetInspection ProjectionPatchReadFault) → i ≡ inspection_answer nodes bindings collections (read_set ed set)
      → answer ≡ inspection_by (limits_of limits) (cursor_of state.replay_cursor) e declared i → ByBatch answer
  preflight_passed answer h i told is = by_steps answer (is ∙ ap (inspection_by (limits_of limits) (cursor_of state.replay_cursor) e declared) told ∙ ap (λ c. c >> behind) h)

-- ---- behind the counts

module _ (l : Limits) (c : Cursor) (e : BatchEnvelope) (declared n k absent : ℕ) where
  pub counts_refused : (r : SessionRefusal) (m : ℕ) → refuse r m ≡ counts_by l e declared n k → refuse r m ≡ inspection_by l c e declared (code.Ok (inspection.Clean n k absent))
  unfolding inspection_by
  counts_refused r m h = ap (λ a. a >> targets_by absent c e) h

  pub counts_passed : (answer : Check (Unit {0})) → pass tt ≡ counts_by l e declared n k → answer ≡ targets_by absent c e → answer ≡ inspection_by l c e declared (code.Ok (inspection.Clean n k absent))
  unfolding inspection_by
  counts_passed answer h is = is ∙ ap (λ a. a >> targets_by absent c e) h

-- ---- refusals that are handed on

pub handed_on : (r : Result (Unit {0}) GateRefusal) (f : GateRefusal) → IsErrAnd r (λ g. g ≡ f) → gate_of r ≡ gate_of (Err f)
handed_on r f h = let refused = err_from_is_err_and r h in rw (refused.1, refused.2)

pub one_handed_on : (r : Result (Unit {0}) GateRefusal) (f : ShellRefusal) → IsErrAnd r (λ g. g ≡ one_refusal f) → gate_of r ≡ refuse (refusal_of f) 1
unfolding gate_of
one_handed_on r f h = let refused = err_from_is_err_and r h in rw (refused.1, refused.2)

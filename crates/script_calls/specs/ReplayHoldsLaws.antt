-- What a call does to a replay: a session is asked for, and there is one that answers, or none; a creation takes the place of what there was.
use Rattle.std.specs.Prelude as code
use Rattle.std.specs.Prelude.{ℕ, ◌-◌, min, ◌≡◌, refl, Bool, true, false, List, map, take, Some}
use Rattle.std.proofs.Common.{sym, ap₂, subst, ◌∙◌, arith}
use Rattle.std.proofs.Math.Path.{ap}
use Rattle.std.proofs.Math.Option.{Option, none, some}
use Rattle.spec_lists.proofs.ListLaws.{map_take}
use Rattle.spec_patch.specs.Edition.{Edition}
use Rattle.spec_session.specs.Batch.{BatchEnvelope, batch}
use Rattle.spec_session.specs.Session.{Session, Limits, Creation, made, refused, create}
use Rattle.spec_replay.specs.Answers.{no_session_line, creation_line}
use Rattle.spec_replay.specs.Replay.{Setup, State, Step, onward, stops, asked, created, batched, with_session, kept_anchors}
use Rattle.bytes_printer.specs.Prints.{Prints}
use Rattle.projection_patch.specs.Meaning.{edition_of}
use Rattle.projection_patch.specs.declared.patch.ProjectionPatchEdition.{ProjectionPatchEdition}
use Rattle.shell_player.specs.Holds.{Holds}
use Rattle.session_creation.specs.Creation.{Creates}
use Rattle.shell_player.specs.declared.session.ShellSession.{ShellSession}
use Rattle.session_creation.specs.declared.ShellSessionCreation.{ShellSessionCreation}
use Rattle.session_lifecycle.specs.Meaning.{limits_of}
use Rattle.active_projection_target_catalog.specs.Catalog.{pair_of, no_pair}
use Rattle.session_creation.specs.Creation.{catalogue_from}
use Rattle.script_calls.specs.SetsUp.{SetsUp}
use Rattle.script_calls.specs.SetsUpLaws.{kept_front}
use Rattle.script_calls.specs.declared.setup.ReplaySetup.{ReplaySetup}
use Rattle.script_calls.specs.declared.state.ReplayState.{ReplayState}
use Rattle.script_calls.specs.declared.state.ReplayStep.{ReplayStep}
use Rattle.script_calls.specs.ReplayHolds.{SessionHeld, ReplayHolds, ReplayStepped, is_created}

-- there is a session of the model, which the struct stores
held_some : (b : Bool) (s : ShellSession) (o : Option Session) → b ≡ true → SessionHeld b s o → (x : Session) × (o ≡ some x) × Holds s x
held_some true s (some x) e h = (x, refl, h)
held_some true s none e h = absurd h
held_some false s o e h = absurd (let z : ◌≡◌ {A = ℕ} 0 1 = cc in omega arith)

held_none : (b : Bool) (s : ShellSession) (o : Option Session) → b ≡ false → SessionHeld b s o → o ≡ none
held_none true s o e h = absurd (let z : ◌≡◌ {A = ℕ} 0 1 = cc in omega arith)
held_none false s (some x) e h = absurd h
held_none false s none e h = refl

held_as : (b : Bool) (s : ShellSession) (x : Session) → b ≡ true → Holds s x → SessionHeld b s (some x)
held_as true s x e h = h
held_as false s x e h = absurd (let z : ◌≡◌ {A = ℕ} 0 1 = cc in omega arith)

module _ (m : State) (f : Session → Step) where
  asked_is : (o : Option Session) → m.session ≡ o → asked m f ≡ elim o [ none ↦ onward m no_session_line | some x ↦ f x ]
  unfolding asked
  asked_is o e = ap (λ (p : Option Session). elim p [ none ↦ onward m no_session_line | some x ↦ f x ]) e

module _ (s : ReplayState) (m : State) (h : ReplayHolds s m) (before after : List ℕ) (r : ReplayStep) (f : Session → Step) where
  -- the session answers
  pub asked_there : s.exists ≡ true → ((x : Session) → Holds s.session x → ReplayStepped s before after r (f x)) → ReplayStepped s before after r (asked m f)
  asked_there e step =
      let one = held_some s.exists s.session m.session e h.session_is in
      subst (ReplayStepped s before after r) (sym (asked_is m f (some one.0) one.1)) (step one.0 one.2)

  -- there is none
  pub asked_nowhere : s.exists ≡ false → ReplayStepped s before after r (onward m no_session_line) → ReplayStepped s before after r (asked m f)
  asked_nowhere e step = subst (ReplayStepped s before after r) (sym (asked_is m f none (held_none s.exists s.session m.session e h.session_is))) step

module _ (s : ReplayState) (m : State) (h : ReplayHolds s m) where
  -- the state with a later session of the same replay
  pub holds_latest : (t : ShellSession) (x : Session) → s.exists ≡ true → Holds t x → ReplayHolds (record { setup = s.setup; exists = s.exists; session = t; turns = s.turns; edition = s.edition }) (with_session m (some x))
  unfolding with_session
  holds_latest t x e held = record { setup_is = h.setup_is; session_is = held_as s.exists t x e held; turns_are = h.turns_are; edition_is = h.edition_is }

module _ {s : ReplayState} {before after : List ℕ} where
  -- a step that goes on, by its parts
  pub step_goes_on : {r : ReplayStep} {m : State} {printed : List ℕ} → r.stopped ≡ false → ReplayHolds r.state m → Prints before (Some 0) printed after r.printed → ReplayStepped s before after r (onward m printed)
  step_goes_on e h p = record { is = (e, (h, p)) }

  pub step_stops : (r : ReplayStep) {printed : List ℕ} → r.stopped ≡ true → r.state ≡ s → Prints before (Some 0) printed after r.printed → ReplayStepped s before after r (stops printed)
  step_stops r e same p = record { is = (e, (same, p)) }

-- a batch in the edition that the struct stores is one in the edition of the replay
pub in_edition : {s : ReplayState} {before after : List ℕ} {r : ReplayStep} (m : State) (own : ProjectionPatchEdition) → edition_of own ≡ m.edition → (x : Session) (e : BatchEnvelope) (references : ℕ) (set : List ℕ)
    → ReplayStepped s before after r (batched m (batch (edition_of own) x e references set)) → ReplayStepped s before after r (batched m (batch m.edition x e references set))
in_edition {s} {before} {after} {r} m own is x e references set step = subst (λ (ed : Edition). ReplayStepped s before after r (batched m (batch ed x e references set))) is step

-- a creation takes the place of what there was
pub created_step : (s : ReplayState) (m : State) → ReplayHolds s m → (c : Creation) (r : ShellSessionCreation) → Creates c r → (b : Bool) → b ≡ is_created r.answer
    → (before after : List ℕ) (p : code.Option ℕ) → Prints before (Some 0) (creation_line c) after p
    → ReplayStepped s before after (record { state = record { setup = s.setup; exists = b; session = r.session; turns = s.turns; edition = s.edition }; printed = p; stopped = false }) (created m c)
unfolding created Creates is_created with_session
created_step s m h (made x) r k b e before after p printed = step_goes_on refl (record { setup_is = h.setup_is; session_is = rw (e, k.0) k.1; turns_are = h.turns_are; edition_is = h.edition_is }) printed
created_step s m h (refused f) r k b e before after p printed = step_goes_on refl (record { setup_is = h.setup_is; session_is = rw (e, k.0) k.1; turns_are = h.turns_are; edition_is = h.edition_is }) printed

-- the anchors that a set-up keeps are those of the definitions
pub setup_creates : (s : ReplaySetup) (m : Setup) → SetsUp s m → (n k : ℕ) → n ≡ min s.node_count kept_anchors → k ≡ min s.collection_count kept_anchors
    → create s.id (limits_of s.limits) (catalogue_from (take (n - 0) s.nodes) (take s.pair_count s.pairs) (take (k - 0) s.collections)) ≡ create m.id m.limits m.catalogue
setup_creates s m h n k en ek =
    let nodes : n - 0 ≡ s.node_count = omega (arith, h.nodes_kept.few) in
    let collections : k - 0 ≡ s.collection_count = omega (arith, h.collections_kept.few) in
    let one : take (n - 0) s.nodes ≡ m.catalogue.nodes = ap (λ (x : ℕ). take x s.nodes) nodes ∙ kept_front 0 s.nodes s.node_count m.catalogue.nodes h.nodes_kept in
    let two : map pair_of (take s.pair_count s.pairs) ≡ m.catalogue.bindings = map_take pair_of s.pair_count s.pairs ∙ kept_front (pair_of no_pair) (map pair_of s.pairs) s.pair_count m.catalogue.bindings h.pairs_kept in
    let three : take (k - 0) s.collections ≡ m.catalogue.collections = ap (λ (x : ℕ). take x s.collections) collections ∙ kept_front 0 s.collections s.collection_count m.catalogue.collections h.collections_kept in
    let all : catalogue_from (take (n - 0) s.nodes) (take s.pair_count s.pairs) (take (k - 0) s.collections) ≡ m.catalogue = λ i. record { nodes = one i; bindings = two i; collections = three i } in
    ap₂ (λ (i : ℕ) (l : Limits). create i l (catalogue_from (take (n - 0) s.nodes) (take s.pair_count s.pairs) (take (k - 0) s.collections))) h.id_is h.limits_are
    ∙ ap (create m.id m.limits) all

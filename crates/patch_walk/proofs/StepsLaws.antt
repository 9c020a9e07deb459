-- On a readable set a walk visits exactly the heads and the operations of its patches, whatever the edition, and whether texts are checked
-- or not. Each law takes the answer of one step.
use Rattle.std.specs.Prelude as code
use Rattle.std.specs.Prelude.{ℕ, ◌+◌, ◌-◌, ◌≤◌, ◌<◌, ◌≡◌, refl, Bool, length}
use Rattle.std.proofs.Math.Path.{sym, ap}
use Rattle.std.proofs.Common.{◌∙◌, subst, length-append, length-drop, drop_at, drop-drop}
use mathlib.Core.List.{List, [], ◌∷◌, ◌++◌, append_assoc, flat_map}
use native.Mathlib.Omega.{arith}
use borrow.Author.Tests.{lt-ltb, le-ltb, le-leb}
use Rattle.std.proofs.Math.ListN.{drop}
use Rattle.spec_lists.specs.Bytes.{Bytes}
use Rattle.spec_lists.proofs.ListLaws.{lent_from_lem}
use Rattle.spec_patch.specs.Sizes.{set_bytes}
use Rattle.spec_patch.specs.Patch.{Operation, Patch}
use Rattle.spec_patch.specs.Edition.{Edition}
use Rattle.spec_patch.specs.Encode.{u32, encode_operation, encode_envelope, encode_counted, encode_patch, heading, encode}
use Rattle.spec_patch.specs.Reader.{read, Reader}
use Rattle.spec_patch.specs.Read.{read_operation_by, patches, read_set}
use Rattle.spec_patch.proofs.ReadLaws.{reads_operation}
use Rattle.spec_patch.proofs.SetLaws.{was_encoded}
use Rattle.projection_patch.specs.Meaning.{operation_to, operation_of}
use Rattle.projection_patch.specs.ReadAnswers.{answer, anywhere, plain, lent_from}
use Rattle.projection_patch.specs.TextLaws.{operation_encoded_back}
use Rattle.projection_patch.specs.declared.patch.ProjectionPatch.{ProjectionPatch}
use Rattle.projection_patch.specs.declared.patch.ProjectionPatchOperation.{ProjectionPatchOperation}
use Rattle.projection_patch.specs.declared.read_values.ProjectionPatchReadFault.{ProjectionPatchReadFault}
use Rattle.patch_sets.specs.Walk.{read_heading, read_head, head_of, encode_heading, encode_head}
use Rattle.patch_sets.specs.HeadLaws.{heading_codec, head_codec}
use Rattle.patch_sets.specs.SetAnswers.{head_to}
use Rattle.patch_walk.specs.Steps.{OpenAnswer, StepAnswer, made_of, first_cursor, after_operation, after_head, open_answer, step_answer, AtSteps}
use Rattle.patch_walk.specs.declared.SetCursor.{SetCursor}
use Rattle.patch_walk.specs.declared.SetStep.TheVariants as set-step

-- ---- one step, whatever is read

-- the answer of a reading from bytes that begin with an encoded value
module _ {A X Y : Type 0} (p : Reader A) (to : ℕ → A → X) (f : X → ℕ → Y) where
  answered : (front rest : List ℕ) (a : A) → p (front ++ rest) ≡ read a rest → (bs : List ℕ) → bs ≡ front ++ rest → made_of f (answer to (length bs) (p bs)) ≡ code.Ok (f (to (length front) a) (length front))
  answered front rest a back bs is =
      let end : length (front ++ rest) - length rest ≡ length front = omega (arith, length-append front rest) in
      ap (λ (l : List ℕ). made_of f (answer to (length l) (p l))) is ∙ rw (back, end)

-- behind the bytes that were taken the rest is left
record Advanced (set : List ℕ) (at : ℕ) (rest : List ℕ) : Type 0 where
  inside : at ≤ length set
  left : drop at set ≡ rest

advance : (set : List ℕ) (at : ℕ) → at ≤ length set → (front rest : List ℕ) → drop at set ≡ front ++ rest → Advanced set (at + length front) rest
advance set at h front rest is =
    let long : length set - at ≡ length front + length rest = sym (length-drop at set) ∙ ap length is ∙ length-append front rest in
    record {
      inside = omega arith;
      left = sym (drop-drop (length front) at set) ∙ ap (drop (length front)) is ∙ drop_at front rest (length front) refl;
    }

-- ---- the opening

module _ (ed : Edition) (set : List ℕ) (all : Bytes set) (ps : List Patch) (readable : read_set ed set ≡ patches ps) where
  abbrev from : ℕ
  from = length (encode_heading ed (length ps))

  set_is : set ≡ encode_heading ed (length ps) ++ flat_map encode_patch ps
  unfolding encode encode_counted encode_heading
  set_is = (was_encoded ed set ps all readable).0 ∙ sym (append_assoc (heading ed) (u32 (length ps)) (flat_map encode_patch ps))

  short : length set ≤ set_bytes
  short = rw (was_encoded ed set ps all readable).0 (was_encoded ed set ps all readable).1.short

  -- a readable set is opened before its first patch
  pub opens : open_answer ed set ≡ code.Ok (first_cursor (length ps) from)
  opens =
      rw (le-leb (length set) set_bytes short)
      (answered (read_heading ed) plain first_cursor (encode_heading ed (length ps)) (flat_map encode_patch ps) (length ps) ((heading_codec ed).back (length ps) (was_encoded ed set ps all readable).1.few (flat_map encode_patch ps)) set set_is)

  pub at_start : AtSteps ed set (first_cursor (length ps) from) [] ps
  unfolding flat_map
  at_start =
      let a = advance set 0 (omega arith) (encode_heading ed (length ps)) (flat_map encode_patch ps) set_is in
      let sum : 0 + from ≡ from = omega arith in
      record {
        inside = omega (arith, a.inside);
        fit = tt;
        fit_rest = (was_encoded ed set ps all readable).1.patches;
        left = ap (λ (k : ℕ). drop k set) (sym sum) ∙ a.left;
        operations = refl;
        patches = refl;
      }

  module _ {r : OpenAnswer} (answer_is : r ≡ open_answer ed set) where
    -- so an answer is before the first patch, and no refusal
    pub opened_at : (c : SetCursor) → r ≡ code.Ok c → AtSteps ed set c [] ps
    opened_at c q =
        let same : ◌≡◌ {A = OpenAnswer} (code.Ok (first_cursor (length ps) from)) (code.Ok c) = sym opens ∙ sym answer_is ∙ q in
        let cursor : first_cursor (length ps) from ≡ c = cc same in
        subst (λ d. AtSteps ed set d [] ps) cursor at_start

    pub never_unopened : (f : ProjectionPatchReadFault) → r ≡ code.Err f → ⊥
    never_unopened f q = let z : ◌≡◌ {A = ℕ} 0 1 = cc (sym opens ∙ sym answer_is ∙ q) in omega arith

-- ---- a step

-- what a step on an operation tells
pub record Visited (ed : Edition) (set : List ℕ) (c : SetCursor) (os : List Operation) (ps : List Patch) (x : ProjectionPatchOperation) (d : SetCursor) : Type 0 where
  pub first : Operation
  pub rest : List Operation
  pub is : os ≡ first ∷ rest
  -- the bytes that it took
  pub taken : drop c.at set ≡ encode_operation first ++ drop d.at set
  -- the answer stands for the operation, its text being in the part from the cursor on
  pub placed : x ≡ operation_to (length (encode_operation first)) first
  pub means : operation_of (lent_from set c.at) x ≡ first
  pub behind : d ≡ after_operation c (length (encode_operation first))
  pub next : AtSteps ed set d rest ps

-- what a step on a head tells
pub record Opened (ed : Edition) (set : List ℕ) (c : SetCursor) (os : List Operation) (ps : List Patch) (h : ProjectionPatch) (d : SetCursor) : Type 0 where
  pub none : os ≡ []
  pub first : Patch
  pub rest : List Patch
  pub is : ps ≡ first ∷ rest
  pub placed : h ≡ head_to (head_of first)
  pub behind : d ≡ after_head c h (length (encode_head (head_of first)))
  pub next : AtSteps ed set d first.operations rest

module _ (check : Bool) (ed : Edition) (set : List ℕ) (c : SetCursor) where
  -- the answer, by what is left
  module _ (o : Operation) (os : List Operation) (ps : List Patch) (here : AtSteps ed set c (o ∷ os) ps) where
    abbrev after : List ℕ
    after = flat_map encode_operation os ++ flat_map encode_patch ps

    bytes_are : drop c.at set ≡ encode_operation o ++ after
    unfolding flat_map
    bytes_are = here.left ∙ append_assoc (encode_operation o) (flat_map encode_operation os) (flat_map encode_patch ps)

    abbrev size : ℕ
    size = length (encode_operation o)

    pub operation_is : step_answer check ed c set ≡ code.Ok (set-step.Operation (operation_to size o) (after_operation c size))
    unfolding step_answer
    operation_is =
        let some' : 0 < c.operations_left = omega (arith, here.operations) in
        rw (lt-ltb 0 c.operations_left some')
        (answered (read_operation_by check ed) operation_to (λ x taken. set-step.Operation x (after_operation c taken)) (encode_operation o) after o (reads_operation check ed o here.fit.0 after) (drop c.at set) bytes_are)

    pub visit : Visited ed set c (o ∷ os) ps (operation_to size o) (after_operation c size)
    visit =
        let a = advance set c.at here.inside (encode_operation o) after bytes_are in
        record {
          first = o;
          rest = os;
          is = refl;
          taken = bytes_are ∙ ap (λ (l : List ℕ). encode_operation o ++ l) (sym a.left);
          placed = refl;
          means = ap (λ (l : List ℕ). operation_of l (operation_to size o)) (lent_from_lem set c.at ∙ bytes_are) ∙ operation_encoded_back o after;
          behind = refl;
          next = record { inside = a.inside; fit = here.fit.1; fit_rest = here.fit_rest; left = a.left; operations = omega (arith, here.operations); patches = here.patches };
        }

  module _ (p : Patch) (ps : List Patch) (here : AtSteps ed set c [] (p ∷ ps)) where
    abbrev inner : List ℕ
    inner = flat_map encode_operation p.operations ++ flat_map encode_patch ps

    patch_is : drop c.at set ≡ encode_head (head_of p) ++ inner
    unfolding encode_patch encode_counted encode_head flat_map
    patch_is =
        here.left
        ∙ append_assoc (encode_envelope p.envelope) (u32 (length p.operations) ++ flat_map encode_operation p.operations) (flat_map encode_patch ps)
        ∙ ap (λ (l : List ℕ). encode_envelope p.envelope ++ l) (append_assoc (u32 (length p.operations)) (flat_map encode_operation p.operations) (flat_map encode_patch ps))
        ∙ sym (append_assoc (encode_envelope p.envelope) (u32 (length p.operations)) inner)

    abbrev head_size : ℕ
    head_size = length (encode_head (head_of p))

    pub head_is : step_answer check ed c set ≡ code.Ok (set-step.Head (head_to (head_of p)) (after_head c (head_to (head_of p)) head_size))
    unfolding step_answer
    head_is =
        let none : c.operations_left ≤ 0 = omega (arith, here.operations) in
        let some' : 0 < c.patches_left = omega (arith, here.patches) in
        rw (le-ltb 0 c.operations_left none, lt-ltb 0 c.patches_left some')
        (answered read_head (anywhere head_to) (λ h taken. set-step.Head h (after_head c h taken)) (encode_head (head_of p)) inner (head_of p) (head_codec.back (head_of p) (here.fit_rest.0.envelope, here.fit_rest.0.few) inner) (drop c.at set) patch_is)

    pub entered : Opened ed set c [] (p ∷ ps) (head_to (head_of p)) (after_head c (head_to (head_of p)) head_size)
    entered =
        let a = advance set c.at here.inside (encode_head (head_of p)) inner patch_is in
        record {
          none = refl;
          first = p;
          rest = ps;
          is = refl;
          placed = refl;
          behind = refl;
          next = record { inside = a.inside; fit = here.fit_rest.0.operations; fit_rest = here.fit_rest.1; left = a.left; operations = refl; patches = omega (arith, here.patches) };
        }

  pub end_is : AtSteps ed set c [] [] → step_answer check ed c set ≡ (code.Ok set-step.End)
  unfolding step_answer
  end_is here =
      let none : c.operations_left ≤ 0 = omega (arith, here.operations) in
      let last : c.patches_left ≤ 0 = omega (arith, here.patches) in
      rw (le-ltb 0 c.operations_left none, le-ltb 0 c.patches_left last)

  -- what an answer tells of what is left
  module _ {os : List Operation} {ps : List Patch} (here : AtSteps ed set c os ps) {r : StepAnswer} (answer_is : r ≡ step_answer check ed c set) where
    pub visited : (x : ProjectionPatchOperation) (d : SetCursor) → r ≡ code.Ok (set-step.Operation x d) → Visited ed set c os ps x d
    visited x d q = go os ps here
      where
        go : (os : List Operation) (ps : List Patch) → AtSteps ed set c os ps → Visited ed set c os ps x d
        go (o ∷ os) ps h =
            let same : ◌≡◌ {A = StepAnswer} (code.Ok (set-step.Operation (operation_to (length (encode_operation o)) o) (after_operation c (length (encode_operation o))))) (code.Ok (set-step.Operation x d)) = sym (operation_is o os ps h) ∙ sym answer_is ∙ q in
            let one : operation_to (length (encode_operation o)) o ≡ x = cc same in
            let two : after_operation c (length (encode_operation o)) ≡ d = cc same in
            subst (λ y. Visited ed set c (o ∷ os) ps y d) one (subst (λ e. Visited ed set c (o ∷ os) ps (operation_to (length (encode_operation o)) o) e) two (visit o os ps h))
        go [] (p ∷ ps) h = absurd (let z : ◌≡◌ {A = ℕ} 0 1 = cc (sym (head_is p ps h) ∙ sym answer_is ∙ q) in omega arith)
        go [] [] h = absurd (let z : ◌≡◌ {A = ℕ} 0 1 = cc (sym (end_is h) ∙ sym answer_is ∙ q) in omega arith)

    pub opened : (head : ProjectionPatch) (d : SetCursor) → r ≡ code.Ok (set-step.Head head d) → Opened ed set c os ps head d
    opened head d q = go os ps here
      where
        go : (os : List Operation) (ps : List Patch) → AtSteps ed set c os ps → Opened ed set c os ps head d
        go (o ∷ os) ps h = absurd (let z : ◌≡◌ {A = ℕ} 0 1 = cc (sym (operation_is o os ps h) ∙ sym answer_is ∙ q) in omega arith)
        go [] (p ∷ ps) h =
            let first = head_to (head_of p) in
            let size = length (encode_head (head_of p)) in
            let same : ◌≡◌ {A = StepAnswer} (code.Ok (set-step.Head first (after_head c first size))) (code.Ok (set-step.Head head d)) = sym (head_is p ps h) ∙ sym answer_is ∙ q in
            let one : first ≡ head = cc same in
            let two : after_head c first size ≡ d = cc same in
            subst (λ y. Opened ed set c [] (p ∷ ps) y d) one (subst (λ e. Opened ed set c [] (p ∷ ps) first e) two (entered p ps h))
        go [] [] h = absurd (let z : ◌≡◌ {A = ℕ} 0 1 = cc (sym (end_is h) ∙ sym answer_is ∙ q) in omega arith)

    -- behind the last step nothing is left
    pub done : r ≡ (code.Ok set-step.End) → (os ≡ []) × (ps ≡ [])
    done q = go os ps here
      where
        go : (os : List Operation) (ps : List Patch) → AtSteps ed set c os ps → (os ≡ []) × (ps ≡ [])
        go (o ∷ os) ps h = absurd (let z : ◌≡◌ {A = ℕ} 0 1 = cc (sym (operation_is o os ps h) ∙ sym answer_is ∙ q) in omega arith)
        go [] (p ∷ ps) h = absurd (let z : ◌≡◌ {A = ℕ} 0 1 = cc (sym (head_is p ps h) ∙ sym answer_is ∙ q) in omega arith)
        go [] [] h = (refl, refl)

    -- no step is refused
    pub never_refused : (f : ProjectionPatchReadFault) → r ≡ code.Err f → ⊥
    never_refused f q = go os ps here
      where
        go : (os : List Operation) (ps : List Patch) → AtSteps ed set c os ps → ⊥
        go (o ∷ os) ps h = let z : ◌≡◌ {A = ℕ} 0 1 = cc (sym (operation_is o os ps h) ∙ sym answer_is ∙ q) in omega arith
        go [] (p ∷ ps) h = let z : ◌≡◌ {A = ℕ} 0 1 = cc (sym (head_is p ps h) ∙ sym answer_is ∙ q) in omega arith
        go [] [] h = let z : ◌≡◌ {A = ℕ} 0 1 = cc (sym (end_is h) ∙ sym answer_is ∙ q) in omega arith

-- What the readers answered at a cursor, told as a step of the walk.
use Rattle.std.specs.Prelude as code
use Prim.Native.Nat.{ℕ, ◌+◌, ◌≤◌, ◌<◌}
use mathlib.Core.Path.{◌≡◌, sym, ap, ◌∙◌}
use mathlib.Core.Logic.{◌⊎◌, inl, inr}
use Rattle.std.specs.List.{slice_range}
use Rattle.std.specs.Option.{MatchOption}
use Rattle.std.proofs.Common.{Bor}
use mathlib.Core.Bool.{Bool}
use mathlib.Core.List.{List}
use native.Mathlib.Omega.{arith}
use lib.ListN.{length, drop, length-drop, length-append, drop_of_length-le}
use Rattle.spec_lists.specs.Bytes.{Bytes}
use Rattle.spec_lists.proofs.BytesLaws.{bytes_drop, length_little_endian}
use Rattle.spec_patch.specs.Patch.{Envelope}
use Rattle.spec_patch.specs.Edition.{Edition}
use Rattle.spec_patch.specs.Encode.{u32, encode_envelope}
use Rattle.spec_patch.specs.Read.{read_envelope, read_operation_by}
use Rattle.spec_patch.proofs.ReadLaws.{operation_codec_by}
use Rattle.spec_patch.proofs.StrictLaws.{operation_some}
use Rattle.projection_patch.specs.Meaning.{operation_to}
use Rattle.projection_patch.specs.ReadAnswers.{anywhere, operation_answer}
use Rattle.projection_patch.specs.declared.patch.ProjectionPatch.{ProjectionPatch}
use Rattle.projection_patch.specs.declared.patch.ProjectionPatchOperation.{ProjectionPatchOperation}
use Rattle.projection_patch.specs.declared.read_values.ProjectionPatchReadFault.{ProjectionPatchReadFault}
use Rattle.projection_patch.specs.declared.read_values.ProjectionPatchReadFault.TheVariants.{Malformed}
use Rattle.spec_lists.proofs.ListLaws.{lent_from_lem}
use Rattle.projection_patch.proofs.Answers.{got, got_some}
use Rattle.patch_sets.specs.Walk.{read_head, encode_head}
use Rattle.patch_sets.specs.HeadLaws.{head_codec}
use Rattle.patch_sets.specs.SetAnswers.{head_to, head_answer}
use Rattle.patch_sets.proofs.PatchAnswers.{head_got}
use Rattle.patch_walk.specs.Steps.{made_of, after_operation, after_head, operation_step, head_step}
use Rattle.patch_walk.specs.declared.SetCursor.{SetCursor}
use Rattle.patch_walk.specs.declared.SetStep.TheVariants as set-step

-- a head takes a byte or more
head_some : (h : Envelope × ℕ) → 0 < length (encode_head h)
unfolding encode_head
head_some h = omega (arith, length-append (encode_envelope h.0) (u32 h.1), length_little_endian 4 h.1)

-- what `get` lends from a position on
module _ (l : List ℕ) (at : ℕ) where
  abbrev pub Lends : code.Option (Bor (List ℕ)) → Type 0
  Lends o = MatchOption o ((length l < at) ⊎ (length l < length l)) (λ x. (at ≤ length l) × (length l ≤ length l) × (x.now ≡ slice_range l at (length l)) × (length x.now + at ≡ length l))

  pub nothing_lent : (o : code.Option (Bor (List ℕ))) → Lends o → o ≡ code.None → length l < at
  nothing_lent code.None (inl h) q = h
  nothing_lent code.None (inr h) q = absurd (omega arith)
  nothing_lent (code.Some x) h q = absurd (let z : ◌≡◌ {A = ℕ} 0 1 = cc q in omega arith)

  pub part_lent : (o : code.Option (Bor (List ℕ))) → Lends o → (x : Bor (List ℕ)) → o ≡ code.Some x → (at ≤ length l) × (x.now ≡ drop at l)
  part_lent code.None h x q = absurd (let z : ◌≡◌ {A = ℕ} 0 1 = cc q in omega arith)
  part_lent (code.Some y) h x q =
      let same : x ≡ y = sym (cc q) in
      (h.0, ap (λ (z : Bor (List ℕ)). z.now) same ∙ h.2 ∙ lent_from_lem l at)

module _ (set : List ℕ) (c : SetCursor) where
  -- past the end nothing is read
  pub no_operation_past : (check : Bool) (ed : Edition) → length set < c.at → code.Err Malformed ≡ operation_step check ed c set
  unfolding read_operation_by
  no_operation_past check ed h = let none : length set ≤ c.at = omega arith in rw (drop_of_length-le set none)

  pub no_head_past : length set < c.at → code.Err Malformed ≡ head_step c set
  unfolding read_head read_envelope
  no_head_past h = let none : length set ≤ c.at = omega arith in rw (drop_of_length-le set none)

  -- an answer of the part from the cursor on decides the step
  module _ (check : Bool) (ed : Edition) {part : List ℕ} (part_is : part ≡ drop c.at set) {r : code.Result (ProjectionPatchOperation × ℕ) ProjectionPatchReadFault} (ensured : r ≡ operation_answer (length part) (read_operation_by check ed part)) where
    operation_answer_lem : r ≡ operation_answer (length (drop c.at set)) (read_operation_by check ed (drop c.at set))
    operation_answer_lem = ensured ∙ ap (λ (l : List ℕ). operation_answer (length l) (read_operation_by check ed l)) part_is

    pub operation_step_is : made_of (λ x taken. set-step.Operation x (after_operation c taken)) r ≡ operation_step check ed c set
    operation_step_is = ap (made_of (λ x taken. set-step.Operation x (after_operation c taken))) operation_answer_lem

    -- an operation that was read goes on by as many bytes
    pub operation_on : Bytes set → (x : ProjectionPatchOperation) (taken : ℕ) → r ≡ code.Ok (x, taken) → c.at ≤ length set → (c.at < c.at + taken) × (c.at + taken ≤ length set)
    operation_on all x taken q here =
        let rest = bytes_drop c.at set all in
        let s = got_some {to = operation_to} (operation_codec_by check ed) operation_some rest x taken (got operation_to (operation_codec_by check ed) (drop c.at set) 0 r operation_answer_lem rest x taken q) in
        (omega (arith, s.0), omega (arith, s.1, length-drop c.at set))

  -- and so does a patch's head
  module _ {part : List ℕ} (part_is : part ≡ drop c.at set) {r : code.Result (ProjectionPatch × ℕ) ProjectionPatchReadFault} (ensured : r ≡ head_answer (length part) (read_head part)) where
    head_answer_lem : r ≡ head_answer (length (drop c.at set)) (read_head (drop c.at set))
    head_answer_lem = ensured ∙ ap (λ (l : List ℕ). head_answer (length l) (read_head l)) part_is

    pub head_step_is : made_of (λ h taken. set-step.Head h (after_head c h taken)) r ≡ head_step c set
    head_step_is = ap (made_of (λ h taken. set-step.Head h (after_head c h taken))) head_answer_lem

    pub head_on : Bytes set → (h : ProjectionPatch) (taken : ℕ) → r ≡ code.Ok (h, taken) → c.at ≤ length set → (c.at < c.at + taken) × (c.at + taken ≤ length set)
    head_on all h taken q here =
        let rest = bytes_drop c.at set all in
        let s = got_some {to = anywhere head_to} head_codec head_some rest h taken (head_got (drop c.at set) 0 r head_answer_lem rest h taken q) in
        (omega (arith, s.0), omega (arith, s.1, length-drop c.at set))

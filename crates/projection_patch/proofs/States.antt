-- A byte that tells a state: what `try_from` answers of it is what its reader reads.
use Prim.Native.Nat.{ℕ, ◌-◌}
use mathlib.Core.Path.{◌≡◌, refl}
use mathlib.Core.Bool.{Bool, true, false}
use mathlib.Core.List.{List, []}
use lib.Dec.{eqb}
use lib.ListN.{length}
use Rattle.std.specs.Prelude as code
use Rattle.std.specs.Prelude.{if◌then◌else◌}
use Rattle.spec_patch.specs.Patch.{Quad, N, F, T, S, quad, Availability, available, unavailable, hidden, pending, stale}
use Rattle.spec_patch.specs.Reader.{Result, read, refused, malformed, mapped}
use Rattle.spec_patch.specs.Read.{quad_after, availability_after}
use Rattle.projection_patch.specs.Meaning.{quad_to, availability_to}
use Rattle.projection_patch.specs.ReadAnswers.{told, availability_answer, value_answer, quad_tag_answer, availability_tag_answer}
use Rattle.projection_patch.specs.declared.patch.ProjectionPatchValue.TheVariants as value
use Rattle.projection_patch.specs.declared.read_values.ProjectionPatchReadFault.{ProjectionPatchReadFault}

-- a state with the position behind it
abbrev pub ending : {X Y : Type 0} → (X → Y) → ℕ → code.Result X ProjectionPatchReadFault → code.Result (Y × ℕ) ProjectionPatchReadFault
ending f end (code.Ok x) = code.Ok (f x, end)
ending f end (code.Err e) = code.Err e

-- by the outcomes of the tests of the byte
abbrev availability_by : (a b c d e : Bool) → List ℕ → Result Availability
availability_by a b c d e rest = if a then read available rest else if b then read unavailable rest else if c then read hidden rest else if d then read pending rest else if e then read stale rest else refused malformed

abbrev quad_by : (a b c d : Bool) → List ℕ → Result Quad
quad_by a b c d rest = if a then read N rest else if b then read F rest else if c then read T rest else if d then read S rest else refused malformed

module _ (t n : ℕ) (bs : List ℕ) where
  pub availability_left : availability_answer n (availability_after t bs) ≡ ending (λ a. a) (n - length bs) (availability_tag_answer t)
  unfolding availability_after
  availability_left = pick (eqb t 0) (eqb t 1) (eqb t 2) (eqb t 3) (eqb t 4)
    where
      pick : (a b c d e : Bool) → availability_answer n (availability_by a b c d e bs) ≡ ending (λ x. x) (n - length bs) (told availability_to (availability_by a b c d e []))
      pick true b c d e = refl
      pick false true c d e = refl
      pick false false true d e = refl
      pick false false false true e = refl
      pick false false false false true = refl
      pick false false false false false = refl

  pub quad_left : value_answer n (mapped quad (quad_after t) bs) ≡ ending value.Quad (n - length bs) (quad_tag_answer t)
  unfolding quad_after
  quad_left = pick (eqb t 0) (eqb t 1) (eqb t 2) (eqb t 3)
    where
      pick : (a b c d : Bool) → value_answer n (mapped quad (quad_by a b c d) bs) ≡ ending value.Quad (n - length bs) (told quad_to (quad_by a b c d []))
      pick true b c d = refl
      pick false true c d = refl
      pick false false true d = refl
      pick false false false true = refl
      pick false false false false = refl

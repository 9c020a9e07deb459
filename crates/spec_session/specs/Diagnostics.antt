-- Refusals in session answers, their numbers and stages, and diagnostics under the cap: 01, 'Rejections' and 'Diagnostics under the cap'.
use Rattle.std.specs.Prelude.{ℕ, zero, suc, min, List, [], ◌∷◌, eqb, if◌then◌else◌}
use Rattle.std.proofs.Math.Option.{Option, none}
use Rattle.std.proofs.Math.ListN.{get_elem?}
use Rattle.spec_lists.specs.Lists.{or_zero}
use Rattle.spec_patch.specs.Reader.{Fault}
use Rattle.spec_patch.specs.Reader as reading
use Rattle.spec_projection.specs.Apply.{OperationFault}
use Rattle.spec_projection.specs.Apply as applying

pub data SessionRefusal : Type 0 where
  session_mismatch session_closed wrong_lifecycle limit_exceeded counts_differ unknown_target cursor_mismatch : SessionRefusal
  key_rule projection_full malformed checks_failed over_capacity : SessionRefusal

-- 01's number of each refusal in a session answer
abbrev pub session_number : SessionRefusal → ℕ
session_number session_mismatch = 1
session_number session_closed = 2
session_number wrong_lifecycle = 3
session_number limit_exceeded = 4
session_number counts_differ = 5
session_number unknown_target = 6
session_number cursor_mismatch = 7
session_number key_rule = 8
session_number projection_full = 9
session_number malformed = 10
session_number checks_failed = 11
session_number over_capacity = 12

-- a fault in reading
abbrev pub of_reading : Fault → SessionRefusal
of_reading reading.malformed = malformed
of_reading reading.over_capacity = over_capacity

-- an operation that failed
abbrev pub of_operation : OperationFault → SessionRefusal
of_operation applying.key_rule = key_rule
of_operation applying.projection_full = projection_full

-- the stages of the numbers 1 to 12
abbrev pub stages : List ℕ
stages = 1 ∷ 2 ∷ 2 ∷ 4 ∷ 4 ∷ 5 ∷ 6 ∷ 8 ∷ 8 ∷ 4 ∷ 4 ∷ 4 ∷ []

-- the stage of a number; no other number has one
abbrev pub stage_of : ℕ → Option ℕ
stage_of zero = none
stage_of (suc n) = get_elem? stages n

-- code, stage, logical count and emitted count
pub record Diagnostics : Type 0 where
  pub code : ℕ
  pub stage : ℕ
  pub logical : ℕ
  pub emitted : ℕ

-- without rejection all are 0
abbrev pub no_diagnostics : Diagnostics
no_diagnostics = record { code = 0; stage = 0; logical = 0; emitted = 0 }

-- so many diagnostics of a refusal under the cap; with 0 emitted, code and stage are 0
unfoldable pub diagnostics_of : ℕ → SessionRefusal → ℕ → Diagnostics
diagnostics_of cap refusal logical =
    let emitted = min logical cap in
    let number = session_number refusal in
    if eqb emitted 0 then record { code = 0; stage = 0; logical = logical; emitted = 0 }
    else record { code = number; stage = or_zero (stage_of number); logical = logical; emitted = emitted }

-- What is asked for by numbers: commands, editions, the envelope of a patch.
use Rattle.std.specs.Prelude.{ℕ, Bool, ◌||◌, eqb, if◌then◌else◌}
use Rattle.std.proofs.Math.Option.{Option, none, some}
use Rattle.spec_patch.specs.Edition.{Edition, v1, v2}
use Rattle.spec_patch.specs.Patch.{Envelope}
use Rattle.spec_session.specs.Lifecycle.{Stimulus, activate, suspend, resume, close, no_op}

-- ---- commands

-- 4 is the explicit no-op
unfoldable pub command_at : ℕ → Stimulus
command_at n = if eqb n 0 then activate else if eqb n 1 then suspend else if eqb n 2 then resume else if eqb n 3 then close else no_op

-- ---- editions

unfoldable pub edition_at : ℕ → Edition
edition_at n = if eqb n 1 then v1 else v2

-- 1 and 2 are editions
unfoldable pub is_edition : ℕ → Bool
is_edition n = eqb n 1 || eqb n 2

-- what is said of the edition of a number, or of a number that is none
unfoldable pub by_edition : {A : Type 0} → ℕ → (Edition → A) → A → A
by_edition n told other = if is_edition n then told (edition_at n) else other

-- ---- the envelope of a patch

-- no surface where the first number is 0
unfoldable pub surface_at : ℕ → ℕ → Option ℕ
surface_at has surface = if eqb has 0 then none else some surface

unfoldable pub envelope_at : (id stream document hasSurface surface previous revision epoch sequence : ℕ) → Envelope
envelope_at id stream document hasSurface surface previous revision epoch sequence = record { id = id; stream = stream; document = document; surface = surface_at hasSurface surface; previous = previous; revision = revision; epoch = epoch; sequence = sequence }

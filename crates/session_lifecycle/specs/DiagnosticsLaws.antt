-- Diagnostics under the cap, by whether any is emitted.
use Rattle.std.specs.Prelude.{ℕ, min, ◌≡◌}
use Rattle.std.proofs.Common.{sym, ◌∙◌, eq-eqb, ne_eqb}
use Rattle.spec_lists.specs.Lists.{or_zero}
use Rattle.spec_session.specs.Diagnostics.{SessionRefusal, Diagnostics, session_number, stage_of, diagnostics_of}

abbrev told : ℕ → ℕ → ℕ → ℕ → Diagnostics
told code stage logical emitted = record { code = code; stage = stage; logical = logical; emitted = emitted }

module _ (cap : ℕ) (r : SessionRefusal) (logical emitted : ℕ) (e : emitted ≡ min logical cap) where
  pub none_emitted : emitted ≡ 0 → told 0 0 logical 0 ≡ diagnostics_of cap r logical
  unfolding diagnostics_of
  none_emitted z = rw (eq-eqb (min logical cap) 0 (sym e ∙ z))

  pub some_emitted : (emitted ≡ 0 → ⊥) → told (session_number r) (or_zero (stage_of (session_number r))) logical emitted ≡ diagnostics_of cap r logical
  unfolding diagnostics_of
  some_emitted n = rw (ne_eqb (min logical cap) 0 (λ z. n (e ∙ z)), e)

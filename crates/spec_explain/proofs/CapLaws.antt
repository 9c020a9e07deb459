-- The reason's number is the batch's before the cap, and under the cap the call tells what the batch's answer tells.
use Rattle.std.specs.Prelude.{ℕ, suc, min, ◌≡◌, Bool, List, if◌then◌else◌}
use Rattle.std.proofs.Math.Path.{refl, sym, ap}
use Rattle.std.proofs.Common.{◌∙◌, arith}
use Rattle.std.proofs.Math.Bool.{true, false}
use Rattle.std.proofs.Math.Option.{Option, none, some}
use borrow.Author.Tests.{ne_eqb, eq-eqb, eqb-true, eqb-false}
use Rattle.std.proofs.Math.Dec.{eqb}
use Rattle.spec_patch.specs.Edition.{Edition}
use Rattle.spec_session.specs.Session.{Session}
use Rattle.spec_session.specs.Diagnostics.{SessionRefusal, session_number, Diagnostics, diagnostics_of}
use Rattle.spec_session.specs.Lifecycle.{rejected}
use Rattle.spec_session.specs.Batch.{BatchEnvelope, BatchStep, reject_batch, batch}
use Rattle.spec_explain.specs.Reason.{Reason, refusal_for, reason_number, logical_of}
use Rattle.spec_explain.specs.Explain.{over_declared, explain_steps, explain_batch, withheld, given, under_cap, explanation_number, explain}
use Rattle.spec_explain.specs.Claim.{with_cap}
use Rattle.spec_explain.proofs.ExplainLaws.{rejected_by, logical_some, no_diagnostics_lem, reason_exactly}

-- a number, and 0 without a reason
unfoldable pub number_of_reason : Option Reason → ℕ
number_of_reason none = 0
number_of_reason (some r) = reason_number r

-- the code of diagnostics, of which there is one at least, under a cap that is not 0, and under 0
code_shown : (cap : ℕ) (k : SessionRefusal) (n : ℕ) → (n ≡ 0 → ⊥) → (cap ≡ 0 → ⊥) → (diagnostics_of cap k n).code ≡ session_number k
unfolding diagnostics_of
code_shown cap k n one above = rw (ne_eqb (min n cap) 0 (λ z. omega (arith, one, above)))

code_hidden : (cap : ℕ) (k : SessionRefusal) (n : ℕ) → cap ≡ 0 → (diagnostics_of cap k n).code ≡ 0
unfolding diagnostics_of
code_hidden cap k n zero = rw (eq-eqb (min n cap) 0 (omega arith))

module _ (ed : Edition) (s : Session) (e : BatchEnvelope) (references : ℕ) (set : List ℕ) where
  code_of : (r : Reason) → explain_batch ed s e references set ≡ some r → (batch ed s e references set).answer.diagnostics.code ≡ (diagnostics_of s.limits.diagnostics (refusal_for r) (logical_of r)).code
  unfolding reject_batch
  code_of r q = ap (λ (b : BatchStep). b.answer.diagnostics.code) (rejected_by ed s e references set r q)

  -- the number that the call tells is the code of the batch's answer
  pub call_tells_code : explanation_number (explain ed s e references set) ≡ (batch ed s e references set).answer.diagnostics.code
  unfolding explain under_cap explanation_number
  call_tells_code = go (explain_batch ed s e references set) refl
    where
      by_cap : (r : Reason) → explain_batch ed s e references set ≡ some r → (t : Bool) → eqb s.limits.diagnostics 0 ≡ t
          → explanation_number (if t then withheld else given r) ≡ (batch ed s e references set).answer.diagnostics.code
      by_cap r q true t = sym (code_of r q ∙ code_hidden s.limits.diagnostics (refusal_for r) (logical_of r) (eqb-true _ 0 t))
      by_cap r q false t = sym (code_of r q ∙ code_shown s.limits.diagnostics (refusal_for r) (logical_of r) (logical_some ed s e references set r q) (eqb-false _ 0 t))

      go : (o : Option Reason) → explain_batch ed s e references set ≡ o → explanation_number (under_cap s.limits.diagnostics o) ≡ (batch ed s e references set).answer.diagnostics.code
      go none q = sym (ap (λ (d : Diagnostics). d.code) (no_diagnostics_lem ed s e references set q))
      go (some r) q = by_cap r q (eqb s.limits.diagnostics 0) refl

  -- under a cap of 0 a rejection is told as withheld, and above 0 with its reason
  pub withheld_at_zero : s.limits.diagnostics ≡ 0 → (batch ed s e references set).answer.disposition ≡ rejected → explain ed s e references set ≡ withheld
  unfolding explain under_cap
  withheld_at_zero zero d = let w = (reason_exactly ed s e references set).0 d in rw (w.1, eq-eqb s.limits.diagnostics 0 zero)

  pub given_above_zero : (s.limits.diagnostics ≡ 0 → ⊥) → (r : Reason) → explain_batch ed s e references set ≡ some r → explain ed s e references set ≡ given r
  unfolding explain under_cap
  given_above_zero above r q = rw (q, ne_eqb s.limits.diagnostics 0 above)

  -- the cap decides nothing of the reason
  cap_free : (cap : ℕ) → explain_batch ed (with_cap cap s) e references set ≡ explain_batch ed s e references set
  unfolding explain_batch explain_steps over_declared with_cap
  cap_free cap = refl

-- the number of the reason is the batch's number before the cap: the one that is shown under any cap above 0
pub number_before_cap : (ed : Edition) (s : Session) (e : BatchEnvelope) (references : ℕ) (set : List ℕ) (cap : ℕ) → (batch ed (with_cap (suc cap) s) e references set).answer.diagnostics.code ≡ number_of_reason (explain_batch ed s e references set)
unfolding number_of_reason with_cap
number_before_cap ed s e references set cap = go (explain_batch ed s e references set) refl
  where
    go : (o : Option Reason) → explain_batch ed s e references set ≡ o → (batch ed (with_cap (suc cap) s) e references set).answer.diagnostics.code ≡ number_of_reason o
    go none q = ap (λ (d : Diagnostics). d.code) (no_diagnostics_lem ed (with_cap (suc cap) s) e references set (cap_free ed s e references set (suc cap) ∙ q))
    go (some r) q =
        let q' = cap_free ed s e references set (suc cap) ∙ q in
        code_of ed (with_cap (suc cap) s) e references set r q'
        ∙ code_shown (suc cap) (refusal_for r) (logical_of r) (logical_some ed (with_cap (suc cap) s) e references set r q') (λ z. omega arith)

-- Which checks of a batch passed or refused, told from what is left when the patches are left out.
use Rattle.std.specs.Prelude.{ℕ, ◌≡◌, refl, List}
use Rattle.std.proofs.Common.{sym, ap₂, arith}
use Rattle.spec_patch.specs.Patch.{Patch}
use Rattle.spec_session.specs.Diagnostics.{SessionRefusal}
use Rattle.spec_session.specs.Batch.{Check, pass, refuse}
use Rattle.session_gates.specs.Gates.{erased}

pub erased_refused : (c : Check (List Patch)) (f : SessionRefusal) (n : ℕ) → refuse f n ≡ erased c → c ≡ refuse f n
erased_refused (pass ps) f n e = absurd (let z : ◌≡◌ {A = ℕ} 0 1 = cc in omega arith)
erased_refused (refuse g k) f n e =
    let same : f ≡ g = cc e in
    let count : n ≡ k = cc e in
    ap₂ (λ a b. refuse a b) (sym same) (sym count)

pub erased_passed : (c : Check (List Patch)) → pass tt ≡ erased c → (ps : List Patch) × (c ≡ pass ps)
erased_passed (pass ps) e = (ps, refl)
erased_passed (refuse g k) e = absurd (let z : ◌≡◌ {A = ℕ} 0 1 = cc in omega arith)

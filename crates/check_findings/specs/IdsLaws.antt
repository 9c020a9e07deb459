-- The scan of ids from a position on.
use Prim.Native.Nat.{ℕ, zero, suc, ◌+◌, ◌≤◌, ◌<◌}
use Rattle.std.specs.Prelude.{◌≡◌, refl, true, false, List, [], ◌∷◌, ◌++◌, ◌≢◌, length, take, drop, get_or, set}
use Rattle.std.proofs.Math.Path.{ap}
use Rattle.std.proofs.Common.{◌∙◌, drop_of_length-le, drop-cons}
use native.Mathlib.Omega.{arith}
use borrow.Author.Tests.{eq-eqb, ne_eqb}
use Rattle.check_findings.specs.Ids.{id_seen}

module _ (id : ℕ) (ids : List ℕ) (at : ℕ) where
  pub id_here : at < length ids → get_or ids at 0 ≡ id → id_seen id (drop at ids) ≡ true
  unfolding id_seen
  id_here h e = rw (drop-cons ids at 0 h, eq-eqb (get_or ids at 0) id e)

  pub id_on : at < length ids → get_or ids at 0 ≢ id → id_seen id (drop at ids) ≡ id_seen id (drop (at + 1) ids)
  unfolding id_seen
  id_on h n =
      let next : suc at ≡ at + 1 = omega arith in
      ap (id_seen id) (drop-cons ids at 0 h) ∙ rw (ne_eqb (get_or ids at 0) id n) (ap (λ (k : ℕ). id_seen id (drop k ids)) next)

  pub id_end : length ids ≤ at → id_seen id (drop at ids) ≡ false
  unfolding id_seen
  id_end h = rw (drop_of_length-le ids h)

-- the ids in front after one more
pub ids_snoc : (ids : List ℕ) (used id : ℕ) → used < length ids → take (suc used) (set ids used id) ≡ take used ids ++ (id ∷ [])
ids_snoc [] used id h = absurd (omega arith)
ids_snoc (x ∷ ids) zero id h = refl
ids_snoc (x ∷ ids) (suc used) id h = ap (λ l. x ∷ l) (ids_snoc ids used id (omega arith))

-- The fields as the code goes through them are those of spec_explain.
use Prim.Native.Nat.{ℕ, suc, ◌+◌, ◌≤◌, ◌<◌}
use Rattle.std.specs.Prelude.{◌≡◌, Bool, leb, eqb, length, if◌then◌else◌}
use Rattle.std.proofs.Math.Path.{refl, ap}
use Rattle.std.proofs.Common.{sym, ◌∙◌, le-leb, eqb-true, drop_of_length-le, drop-cons}
use Rattle.std.proofs.Math.Bool.{true, false}
use mathlib.Core.List.{List, [], ◌∷◌}
use native.Mathlib.Omega.{arith}
use Rattle.std.proofs.lemmas.Bool.{lt-leb, eqb-false}
use Rattle.std.proofs.Math.ListN.{get_or, drop}
use Rattle.spec_patch.specs.Edition.{Edition}
use Rattle.spec_patch.specs.Read.{read_u32, read_u64}
use Rattle.spec_explain.specs.ReadingRule.{quad_tag, availability_tag, score_range}
use Rattle.spec_explain.specs.Locate.{Located, past, stop, Locator, stop_at, go_on, ◌⨟◌, field, by_row, locate_optional, locate_quad, locate_availability, locate_score, locate_value, locate_envelope}
use Rattle.spec_explain.proofs.SteadyLaws.{Steady}
use Rattle.spec_explain.proofs.SteadySetLaws.{steady_u64, steady_u32, steady_optional, steady_availability, steady_value}
use Rattle.patch_locate.specs.Fields.{field_at_most, field_of, fields_of}

-- ---- tags that end, as one test

quad_row : (bs : List ℕ) (t : ℕ) (rest : List ℕ) (a b c d : Bool) → eqb t 0 ≡ a → eqb t 1 ≡ b → eqb t 2 ≡ c → eqb t 3 ≡ d
    → (if a then past rest else (if b then past rest else (if c then past rest else (if d then past rest else stop_at quad_tag bs)))) ≡ (if leb t 3 then past rest else stop_at quad_tag bs)
quad_row bs t rest true b c d p q r s = sym (rw (le-leb t 3 (omega (arith, eqb-true t 0 p))))
quad_row bs t rest false true c d p q r s = sym (rw (le-leb t 3 (omega (arith, eqb-true t 1 q))))
quad_row bs t rest false false true d p q r s = sym (rw (le-leb t 3 (omega (arith, eqb-true t 2 r))))
quad_row bs t rest false false false true p q r s = sym (rw (le-leb t 3 (omega (arith, eqb-true t 3 s))))
quad_row bs t rest false false false false p q r s = sym (rw (lt-leb t 3 (omega (arith, eqb-false t 0 p, eqb-false t 1 q, eqb-false t 2 r, eqb-false t 3 s))))

pub quad_is : (bs : List ℕ) → locate_quad bs ≡ field_at_most quad_tag 3 bs
unfolding locate_quad field_at_most by_row
quad_is [] = refl
quad_is (t ∷ rest) = quad_row (t ∷ rest) t rest (eqb t 0) (eqb t 1) (eqb t 2) (eqb t 3) refl refl refl refl

availability_row : (bs : List ℕ) (t : ℕ) (rest : List ℕ) (a b c d e : Bool) → eqb t 0 ≡ a → eqb t 1 ≡ b → eqb t 2 ≡ c → eqb t 3 ≡ d → eqb t 4 ≡ e
    → (if a then past rest else (if b then past rest else (if c then past rest else (if d then past rest else (if e then past rest else stop_at availability_tag bs))))) ≡ (if leb t 4 then past rest else stop_at availability_tag bs)
availability_row bs t rest true b c d e p q r s u = sym (rw (le-leb t 4 (omega (arith, eqb-true t 0 p))))
availability_row bs t rest false true c d e p q r s u = sym (rw (le-leb t 4 (omega (arith, eqb-true t 1 q))))
availability_row bs t rest false false true d e p q r s u = sym (rw (le-leb t 4 (omega (arith, eqb-true t 2 r))))
availability_row bs t rest false false false true e p q r s u = sym (rw (le-leb t 4 (omega (arith, eqb-true t 3 s))))
availability_row bs t rest false false false false true p q r s u = sym (rw (le-leb t 4 (omega (arith, eqb-true t 4 u))))
availability_row bs t rest false false false false false p q r s u = sym (rw (lt-leb t 4 (omega (arith, eqb-false t 0 p, eqb-false t 1 q, eqb-false t 2 r, eqb-false t 3 s, eqb-false t 4 u))))

pub availability_is : (bs : List ℕ) → locate_availability bs ≡ field_at_most availability_tag 4 bs
unfolding locate_availability field_at_most by_row
availability_is [] = refl
availability_is (t ∷ rest) = availability_row (t ∷ rest) t rest (eqb t 0) (eqb t 1) (eqb t 2) (eqb t 3) (eqb t 4) refl refl refl refl refl

pub score_is : (bs : List ℕ) → locate_score bs ≡ field_at_most score_range 100 bs
unfolding locate_score field_at_most
score_is bs = refl

-- ---- fields by their letters

module _ (ed : Edition) where
  pub steady_field_of : (letter : ℕ) → Steady (field_of ed letter)
  unfolding field_of
  steady_field_of letter = pick (eqb letter 78) (eqb letter 83) (eqb letter 79) (eqb letter 65)
    where
      pick : (a b c d : Bool) → Steady (λ bs. if a then field read_u64 bs else (if b then field read_u32 bs else (if c then locate_optional bs else (if d then locate_availability bs else locate_value ed bs))))
      pick true b c d = steady_u64
      pick false true c d = steady_u32
      pick false false true d = steady_optional
      pick false false false true = steady_availability
      pick false false false false = steady_value ed

  -- the field of the letter at i, and the others
  pub fields_turn : (ls : List ℕ) (i : ℕ) → i < length ls → (bs : List ℕ) → fields_of ed (drop i ls) bs ≡ (field_of ed (get_or ls i 0) ⨟ fields_of ed (drop (i + 1) ls)) bs
  unfolding fields_of
  fields_turn ls i h bs =
      let next : suc i ≡ i + 1 = omega arith in
      ap (λ (l : List ℕ). fields_of ed l bs) (drop-cons ls i 0 h ∙ ap (λ (j : ℕ). get_or ls i 0 ∷ drop j ls) next)

  pub fields_end : (ls : List ℕ) (i : ℕ) → length ls ≤ i → (bs : List ℕ) → fields_of ed (drop i ls) bs ≡ past bs
  unfolding fields_of
  fields_end ls i h bs = rw (drop_of_length-le ls h)

  -- nothing follows the last
  last : (l : Locator) → (l ⨟ fields_of ed []) ≡ l
  unfolding fields_of
  last l = λ i bs. go (l bs) i
    where
      go : (x : Located) → go_on x (fields_of ed []) ≡ x
      go (past rest) = refl
      go (stop s) = refl

  -- ---- the operations and the envelope

  pub letters_1 : (bs : List ℕ) → fields_of ed (78 ∷ 83 ∷ 86 ∷ []) bs ≡ (field read_u64 ⨟ field read_u32 ⨟ locate_value ed) bs
  unfolding fields_of field_of
  letters_1 bs = ap (λ (m : Locator). (field read_u64 ⨟ field read_u32 ⨟ m) bs) (last (locate_value ed))

  pub letters_2 : (bs : List ℕ) → fields_of ed (78 ∷ 65 ∷ []) bs ≡ (field read_u64 ⨟ locate_availability) bs
  unfolding fields_of field_of
  letters_2 bs = ap (λ (m : Locator). (field read_u64 ⨟ m) bs) (last locate_availability)

  pub letters_3 : (bs : List ℕ) → fields_of ed (78 ∷ 78 ∷ 79 ∷ 86 ∷ []) bs ≡ (field read_u64 ⨟ field read_u64 ⨟ locate_optional ⨟ locate_value ed) bs
  unfolding fields_of field_of
  letters_3 bs = ap (λ (m : Locator). (field read_u64 ⨟ field read_u64 ⨟ locate_optional ⨟ m) bs) (last (locate_value ed))

  pub letters_4 : (bs : List ℕ) → fields_of ed (78 ∷ 78 ∷ 86 ∷ []) bs ≡ (field read_u64 ⨟ field read_u64 ⨟ locate_value ed) bs
  unfolding fields_of field_of
  letters_4 bs = ap (λ (m : Locator). (field read_u64 ⨟ field read_u64 ⨟ m) bs) (last (locate_value ed))

  pub letters_5 : (bs : List ℕ) → fields_of ed (78 ∷ 78 ∷ []) bs ≡ (field read_u64 ⨟ field read_u64) bs
  unfolding fields_of field_of
  letters_5 bs = ap (λ (m : Locator). (field read_u64 ⨟ m) bs) (last (field read_u64))

  pub letters_6 : (bs : List ℕ) → fields_of ed (78 ∷ 78 ∷ 79 ∷ []) bs ≡ (field read_u64 ⨟ field read_u64 ⨟ locate_optional) bs
  unfolding fields_of field_of
  letters_6 bs = ap (λ (m : Locator). (field read_u64 ⨟ field read_u64 ⨟ m) bs) (last locate_optional)

  pub letters_envelope : (bs : List ℕ) → fields_of ed (78 ∷ 78 ∷ 78 ∷ 79 ∷ 78 ∷ 78 ∷ 78 ∷ 78 ∷ []) bs ≡ locate_envelope bs
  unfolding fields_of field_of locate_envelope
  letters_envelope bs = ap (λ (m : Locator). (field read_u64 ⨟ field read_u64 ⨟ field read_u64 ⨟ locate_optional ⨟ field read_u64 ⨟ field read_u64 ⨟ field read_u64 ⨟ m) bs) (last (field read_u64))

-- The theorems on canonical bytes: reading gives back what was encoded, whatever is read was encoded, and so two different lists that fit
-- never share bytes.
use Rattle.std.specs.Prelude.{ℕ, ◌≤◌, ◌≡◌, Bool, true, false, leb, if◌then◌else◌}
use Rattle.std.proofs.Math.Path.{refl, ap, subst}
use Rattle.std.proofs.Common.{sym, ◌∙◌, arith, le-leb, leb-true}
use mathlib.Core.List.{List, [], ◌∷◌, append-nil}
use Rattle.std.proofs.Math.ListN.{length}
use Rattle.spec_lists.specs.Bytes.{Bytes}
use Rattle.spec_patch.specs.Sizes.{set_bytes}
use Rattle.spec_patch.specs.Patch.{Patch}
use Rattle.spec_patch.specs.Edition.{Edition}
use Rattle.spec_patch.specs.Encode.{encode}
use Rattle.spec_patch.specs.Fits.{Fits}
use Rattle.spec_patch.specs.Reader.{Fault, over_capacity, Result, read, refused}
use Rattle.spec_patch.specs.Read.{read_patches, patches, fault, ended, read_set}
use Rattle.spec_patch.proofs.ReadLaws.{patches_codec}

-- a fault is no list of patches
pub no_patches : {C : Type 0} {f : Fault} {ps : List Patch} → fault f ≡ patches ps → C
no_patches e = absurd (let z : ◌≡◌ {A = ℕ} 0 1 = cc in omega arith)

pub patches_inj : (ps qs : List Patch) → patches ps ≡ patches qs → ps ≡ qs
patches_inj ps qs e = cc

module _ (ed : Edition) where
  -- reading what was encoded gives it back
  pub reads_back : (ps : List Patch) → Fits ed ps → read_set ed (encode ed ps) ≡ patches ps
  unfolding read_set ended
  reads_back ps h =
      let all : read_patches ed (encode ed ps) ≡ read ps [] = ap (read_patches ed) (sym (append-nil (encode ed ps))) ∙ (patches_codec ed).back ps (h.few, h.patches) [] in
      rw (le-leb (length (encode ed ps)) set_bytes h.short, all)

  -- whatever is read was encoded, and fits
  pub was_encoded : (bs : List ℕ) (ps : List Patch) → Bytes bs → read_set ed bs ≡ patches ps → (bs ≡ encode ed ps) × Fits ed ps
  unfolding read_set ended
  was_encoded bs ps h e = by_length (leb (length bs) set_bytes) refl e
    where
      by_rest : (qs : List Patch) (rest : List ℕ) → read_patches ed bs ≡ read qs rest → length bs ≤ set_bytes → ended (read qs rest) ≡ patches ps → (bs ≡ encode ed ps) × Fits ed ps
      by_rest qs [] q l e =
          let o = (patches_codec ed).only h qs [] q in
          let all : bs ≡ encode ed qs = o.1 ∙ append-nil (encode ed qs) in
          subst (λ (x : List Patch). (bs ≡ encode ed x) × Fits ed x) (patches_inj qs ps e) (all, record { few = o.0.0; patches = o.0.1; short = rw (← all) l })
      by_rest qs (b ∷ rest) q l e = no_patches e

      by_result : (x : Result (List Patch)) → read_patches ed bs ≡ x → length bs ≤ set_bytes → ended x ≡ patches ps → (bs ≡ encode ed ps) × Fits ed ps
      by_result (read qs rest) q l e = by_rest qs rest q l e
      by_result (refused f) q l e = no_patches e

      by_length : (t : Bool) → leb (length bs) set_bytes ≡ t → (if t then ended (read_patches ed bs) else fault over_capacity) ≡ patches ps → (bs ≡ encode ed ps) × Fits ed ps
      by_length true t e = by_result (read_patches ed bs) refl (leb-true (length bs) set_bytes t) e
      by_length false t e = no_patches e

  -- two lists that fit and share their bytes are the same
  pub encode_injective : (ps qs : List Patch) → Fits ed ps → Fits ed qs → encode ed ps ≡ encode ed qs → ps ≡ qs
  encode_injective ps qs hp hq e = patches_inj ps qs (sym (reads_back ps hp) ∙ ap (read_set ed) e ∙ reads_back qs hq)

  -- two byte strings that read as one list are the same: the reader takes the canonical bytes alone
  pub reading_injective : (a b : List ℕ) (ps : List Patch) → Bytes a → Bytes b → read_set ed a ≡ patches ps → read_set ed b ≡ patches ps → a ≡ b
  reading_injective a b ps ha hb p q = (was_encoded a ps ha p).0 ∙ sym (was_encoded b ps hb q).0

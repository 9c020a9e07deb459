-- The heading and a patch's head are read where they were encoded and nowhere else; a set and a patch are read by them first.
use Rattle.std.specs.Prelude.{ℕ, ◌≤◌, ◌≡◌, List}
use Rattle.std.proofs.Math.Path.{refl}
use Rattle.std.proofs.Common.{lit<}
use Rattle.spec_patch.specs.Sizes.{set_patches, patch_operations}
use Rattle.spec_patch.specs.Patch.{Operation, Envelope, Patch}
use Rattle.spec_patch.specs.Edition.{Edition}
use Rattle.spec_patch.specs.Encode.{heading}
use Rattle.spec_patch.specs.Fits.{InRangeEnvelope}
use Rattle.spec_patch.specs.Reader.{Fault, Result, read, refused, Reader, onward, followed, mapped, many, literal}
use Rattle.spec_patch.specs.Read.{read_count, read_counted, read_operation, read_envelope, to_patch, read_patch, read_patches}
use Rattle.spec_patch.proofs.Codec.{Codec, iso_codec, pair_codec, literal_codec}
use Rattle.spec_patch.proofs.ReadLaws.{count_codec, envelope_codec}
use Rattle.patch_sets.specs.Walk.{read_heading, read_head, encode_heading, encode_head}

pub heading_codec : (ed : Edition) → Codec (encode_heading ed) (λ (n : ℕ). n ≤ set_patches) (read_heading ed)
unfolding encode_heading read_heading
heading_codec ed =
    iso_codec (pair_codec (literal_codec (heading ed)) (count_codec set_patches (lit< tt)))
    (λ t. t.1) (λ n. (tt, n)) (λ n. n ≤ set_patches)
    (λ n g. (tt, g))
    (λ t g. g.1)
    (λ n g. refl)
    (λ t g. refl)

pub head_codec : Codec encode_head (λ (h : Envelope × ℕ). InRangeEnvelope h.0 × (h.1 ≤ patch_operations)) read_head
unfolding encode_head read_head
head_codec = pair_codec envelope_codec (count_codec patch_operations (lit< tt))

-- the second of two things that were read
abbrev second : {A : Type 0} → Result (Unit {0} × A) → Result A
second r = onward r (λ t rest. read t.1 rest)

abbrev behind : {A : Type 0} → Unit {0} → Result A → Result (Unit {0} × A)
behind u r = onward r (λ a rest. read (u, a) rest)

second_behind : {A : Type 0} (u : Unit {0}) (r : Result A) → second (behind u r) ≡ r
second_behind u (read a rest) = refl
second_behind u (refused f) = refl

module _ (ed : Edition) where
  -- the count behind the letters
  pub heading_by_letters : (bs rest : List ℕ) → literal (heading ed) bs ≡ read tt rest → read_heading ed bs ≡ read_count set_patches rest
  unfolding read_heading
  heading_by_letters bs rest e = rw e (second_behind tt (read_count set_patches rest))

  pub heading_refused : (bs : List ℕ) (f : Fault) → literal (heading ed) bs ≡ refused f → read_heading ed bs ≡ refused f
  unfolding read_heading
  heading_refused bs f e = rw e

  -- the patches behind the heading
  pub patches_by_heading : (bs : List ℕ) → read_patches ed bs ≡ followed (read_heading ed) (λ n. many n (read_patch ed)) bs
  unfolding read_patches read_heading
  patches_by_heading bs = by_letters (literal (heading ed) bs)
    where
      by_count : (u : Unit {0}) (r : Result ℕ) → second (behind u (onward r (λ n. many n (read_patch ed)))) ≡ onward (second (behind u r)) (λ n. many n (read_patch ed))
      by_count u (read n rest) = second_behind u (many n (read_patch ed) rest)
      by_count u (refused f) = refl

      by_letters : (r : Result (Unit {0})) → second (onward r (λ u rest. behind u (read_counted set_patches (read_patch ed) rest)))
          ≡ onward (second (onward r (λ u rest. behind u (read_count set_patches rest)))) (λ n. many n (read_patch ed))
      by_letters (read u rest) = by_count u (read_count set_patches rest)
      by_letters (refused f) = refl

  -- a patch's operations behind its head
  abbrev pub behind_head : Envelope × ℕ → Reader Patch
  behind_head h = mapped (λ os. to_patch (h.0, os)) (many h.1 (read_operation ed))

  pub patch_by_head : (bs : List ℕ) → read_patch ed bs ≡ followed read_head behind_head bs
  unfolding read_patch read_head
  patch_by_head bs = by_envelope (read_envelope bs)
    where
      by_operations : (e : Envelope) (r : Result (List Operation)) → onward (onward r (λ os rest. read (e, os) rest)) (λ t rest. read (to_patch t) rest) ≡ onward r (λ os rest. read (to_patch (e, os)) rest)
      by_operations e (read os rest) = refl
      by_operations e (refused f) = refl

      by_count : (e : Envelope) (r : Result ℕ) → onward (onward (onward r (λ n. many n (read_operation ed))) (λ os rest. read (e, os) rest)) (λ t rest. read (to_patch t) rest)
          ≡ onward (onward r (λ n rest. read (e, n) rest)) behind_head
      by_count e (read n rest) = by_operations e (many n (read_operation ed) rest)
      by_count e (refused f) = refl

      by_envelope : (r : Result Envelope) → onward (onward r (λ e. followed (followed (read_count patch_operations) (λ n. many n (read_operation ed))) (λ os rest. read (e, os) rest))) (λ t rest. read (to_patch t) rest)
          ≡ onward (onward r (λ e. followed (read_count patch_operations) (λ n rest. read (e, n) rest))) behind_head
      by_envelope (read e rest) = by_count e (read_count patch_operations rest)
      by_envelope (refused f) = refl

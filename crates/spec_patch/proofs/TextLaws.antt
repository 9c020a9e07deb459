-- Which fault a text gives, in reading and in writing: bytes that are missing, then too many, then RFC 3629, then its characters.
use Rattle.std.specs.Prelude.{ℕ, ◌≤◌, ◌<◌, ◌^◌, ◌≡◌, refl, Bool, true, false, List, ◌++◌, length}
use Rattle.std.proofs.Math.Path.{ap}
use Rattle.std.proofs.Common.{◌∙◌, append_assoc, le-leb}
use Rattle.std.proofs.lemmas.Bool.{lt-leb}
use Rattle.spec_text.specs.Syntax.{is_utf8, characters}
use Rattle.spec_patch.specs.Sizes.{text_bytes, text_characters}
use Rattle.spec_patch.specs.Patch.{Patch}
use Rattle.spec_patch.specs.Edition.{Edition}
use Rattle.spec_patch.specs.Encode.{u32, encode_text}
use Rattle.spec_patch.specs.Reader.{malformed, over_capacity, read, refused, onward}
use Rattle.spec_patch.specs.Read.{text_taken, text_body, read_text_by, read_text}
use Rattle.spec_patch.specs.Write as writer
use Rattle.spec_patch.specs.Write.{within_capacities, all_values, well_formed, few_enough, write}
use Rattle.spec_patch.proofs.Codec.{bytes_codec}
use Rattle.spec_patch.proofs.ReadLaws.{u32_codec}

-- ---- reading

-- fewer bytes than the length names are malformed, whatever it names
pub text_cut_off : (check : Bool) (n : ℕ) (rest : List ℕ) → n < 2 ^ 32 → length rest < n → read_text_by check (u32 n ++ rest) ≡ refused malformed
unfolding read_text_by
text_cut_off check n rest small h = rw (u32_codec.back n small rest, lt-leb n (length rest) h)

module _ (t rest : List ℕ) (small : length t < 2 ^ 32) where
  -- all of its bytes are there: they decide
  by_bytes : read_text (encode_text t ++ rest) ≡ text_body true (length t) (t ++ rest)
  unfolding read_text_by encode_text
  by_bytes =
      ap read_text (append_assoc (u32 (length t)) t rest)
      ∙ ap (λ r. onward r (text_body true)) (u32_codec.back (length t) small (t ++ rest))

  -- too many of them are over the capacity, whatever they are
  pub text_long : text_bytes < length t → read_text (encode_text t ++ rest) ≡ refused over_capacity
  text_long h = by_bytes ∙ rw ((bytes_codec (length t)).back t refl rest, lt-leb (length t) text_bytes h)

  module _ (short : length t ≤ text_bytes) where
    taken : text_taken (length t) (t ++ rest) ≡ read t rest
    taken = rw ((bytes_codec (length t)).back t refl rest, le-leb (length t) text_bytes short)

    -- what RFC 3629 forbids is malformed, however many characters there seem to be
    pub text_malformed : is_utf8 t ≡ false → read_text (encode_text t ++ rest) ≡ refused malformed
    text_malformed e = by_bytes ∙ rw (taken, e)

    -- then too many characters are over the capacity
    pub text_many : is_utf8 t ≡ true → text_characters < characters t → read_text (encode_text t ++ rest) ≡ refused over_capacity
    text_many e h = by_bytes ∙ rw (taken, e, lt-leb (characters t) text_characters h)

-- ---- writing

module _ (ed : Edition) (ps : List Patch) (room : ℕ) (within : within_capacities ed ps ≡ true) where
  -- one text that is malformed comes before any with too many characters, and before a short output
  pub write_malformed : all_values (well_formed ed) ps ≡ false → write ed ps room ≡ writer.refused writer.malformed
  unfolding write
  write_malformed e = rw (within, e)

  -- then too many characters, also before a short output
  pub write_many : all_values (well_formed ed) ps ≡ true → all_values few_enough ps ≡ false → write ed ps room ≡ writer.refused writer.over_capacity
  unfolding write
  write_many e f = rw (within, e, f)

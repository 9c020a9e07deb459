-- Where a text is cut off: reading comes to the length of a text that is over the capacity, with fewer bytes behind it than it names. All
-- other bytes are read as they were (02, 'Job 6').
use Rattle.std.specs.Prelude.{ℕ, ◌≤◌, ◌<◌, ◌^◌, ◌≡◌, Bool, true, List, ◌++◌, length}
use Rattle.spec_patch.specs.Sizes.{set_bytes, text_bytes}
use Rattle.spec_patch.specs.Edition.{Edition}
use Rattle.spec_patch.specs.Encode.{u32}
use Rattle.spec_patch.specs.Reader.{Fault, malformed, over_capacity, refused, Reader, Kept}
use Rattle.spec_patch.specs.Read.{read_text_by, fault, read_set}
use Rattle.spec_patch.specs.LengthFirst.{length_first_text, Over, patches_over, length_first_set}

module _ (check : Bool) where
  -- a front, the length n of a text, over the capacity, and fewer bytes than n up to the end
  pub record CutOff {A : Type 0} (reader : Over A) (bs : List ℕ) : Type 0 where
    pub front : List ℕ
    pub n : ℕ
    pub rest : List ℕ
    pub stands : bs ≡ front ++ (u32 n ++ rest)
    pub field : n < 2 ^ 32
    pub long : text_bytes < n
    pub fewer : length rest < n
    -- reading comes there: whatever fault a reader of texts gives there is what the whole gives
    pub reached : (texts : Reader (List ℕ)) → Kept (read_text_by check) texts → (f : Fault) → texts (u32 n ++ rest) ≡ refused f → reader texts bs ≡ refused f

  -- before and now are alike, or a text is cut off
  pub data Change {A : Type 0} (reader : Over A) (bs : List ℕ) : Type 0 where
    alike : reader (length_first_text check) bs ≡ reader (read_text_by check) bs → Change reader bs
    cut_off : CutOff reader bs → Change reader bs

-- a set is read as it was, or it is within its bytes and a text in it is cut off: 12 before, and 10 now
pub data SetChange (ed : Edition) (bs : List ℕ) : Type 0 where
  as_before : length_first_set ed bs ≡ read_set ed bs → SetChange ed bs
  changed : length bs ≤ set_bytes → CutOff true (patches_over ed) bs → length_first_set ed bs ≡ fault over_capacity → read_set ed bs ≡ fault malformed → SetChange ed bs

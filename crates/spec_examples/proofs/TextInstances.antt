-- The limit of texts, 02, 'Job 5', at its ends: one table of computed tests, and the theorem on former sets met by some set.
use Rattle.std.specs.Prelude.{ℕ, ◌+◌, ◌≡◌, refl, Bool, ◌&&◌, T, eqb, length, replicate}
use mathlib.Core.List.{List, [], ◌∷◌, ◌++◌, flat_map}
use Rattle.std.proofs.Math.Option.{none}
use Rattle.spec_lists.specs.Lists.{all}
use Rattle.spec_text.specs.Syntax.{characters}
use Rattle.spec_patch.specs.Patch.{Operation, Patch, text, update}
use Rattle.spec_patch.specs.Edition.{v1}
use Rattle.spec_patch.specs.Encode.{encode, encode_text}
use Rattle.spec_patch.specs.Reader.{Result, read, refused, fault_number}
use Rattle.spec_patch.specs.Read.{read_text, patches, read_set}
use Rattle.spec_patch.specs.Write.{Written, wrote, refused, write_number, write}
use Rattle.spec_patch.specs.Former.{former_text, former_value, former_operation, former_patch, former_patches, former_set}
use Rattle.spec_patch.proofs.FormerLaws.{former_accepted}
use Rattle.spec_examples.specs.Opened.{opened_all}

-- ---- what the instances are made of

-- a character of one byte, of two, three and four: a letter, alpha, a kanji and a musical sign
abbrev one : List ℕ
one = 0x61 ∷ []

abbrev two : List ℕ
two = 0xCE ∷ 0xB1 ∷ []

abbrev three : List ℕ
three = 0xE6 ∷ 0x97 ∷ 0xA5 ∷ []

abbrev four : List ℕ
four = 0xF0 ∷ 0x9D ∷ 0x84 ∷ 0x9E ∷ []

-- so many of a character
times : ℕ → List ℕ → List ℕ
times n c = flat_map (λ (k : ℕ). c) (replicate n 0)

-- 0, or the number of the refusal
text_number : List ℕ → ℕ
text_number t = number (read_text (encode_text t))
  where
    number : Result (List ℕ) → ℕ
    number (read a rest) = 0
    number (refused f) = fault_number f

-- one patch that updates entries of collection 9 with these texts
unfoldable pub updating : List (List ℕ) → List Patch
updating ts = record {
  envelope = record { id = 1; stream = 1; document = 1; surface = none; previous = 1; revision = 2; epoch = 1; sequence = 1 };
  operations = updates 1 ts;
} ∷ []
  where
    updates : ℕ → List (List ℕ) → List Operation
    updates k [] = []
    updates k (t ∷ more) = update 9 k (text t) ∷ updates (k + 1) more

writing_number : List (List ℕ) → ℕ
writing_number ts = number (write v1 (updating ts) 32768)
  where
    number : Written → ℕ
    number (wrote bs) = 0
    number (refused w) = write_number w

-- ---- the instances

-- 160 characters of one byte pass, 161 are 12
pub of_one_byte : Bool
of_one_byte = eqb (text_number (times 160 one)) 0 && eqb (text_number (times 161 one)) 12

-- 120 of two bytes, 80 of three and 60 of four are 240 bytes and pass; one more is 12
pub of_more_bytes : Bool
of_more_bytes =
    all (λ (n : ℕ). eqb n 0) (text_number (times 120 two) ∷ text_number (times 80 three) ∷ text_number (times 60 four) ∷ [])
    && all (λ (n : ℕ). eqb n 12) (text_number (times 121 two) ∷ text_number (times 81 three) ∷ text_number (times 61 four) ∷ [])

-- 160 characters of 240 bytes pass; 161 of 240 bytes are 12
pub of_both : Bool
of_both =
    eqb (length (times 80 two ++ times 80 one)) 240
    && (eqb (text_number (times 80 two ++ times 80 one)) 0
    && (eqb (length (times 79 two ++ times 82 one)) 240
    && (eqb (characters (times 79 two ++ times 82 one)) 161
    && eqb (text_number (times 79 two ++ times 82 one)) 12)))

-- too many characters, and a last byte that RFC 3629 forbids: 10
pub last_byte : Bool
last_byte = eqb (text_number (times 161 one ++ (0xFF ∷ []))) 10

-- the first text has too many characters, the second is not UTF-8: the writer's 10; without the second its 12
pub two_texts : Bool
two_texts = eqb (writing_number (times 161 one ∷ (0xFF ∷ []) ∷ [])) 10 && eqb (writing_number (times 161 one ∷ one ∷ [])) 12

pub texts_hold : T (all (λ (b : Bool). b) (of_one_byte ∷ of_more_bytes ∷ of_both ∷ last_byte ∷ two_texts ∷ []))
unfolding of_one_byte of_more_bytes of_both last_byte two_texts times text_number updating writing_number flat_map opened_all
texts_hold = tt

-- a set that was accepted before, and is still
pub was_accepted : former_set v1 (encode v1 (updating (three ∷ []))) ≡ patches (updating (three ∷ []))
unfolding former_text former_value former_operation former_patch former_patches former_set updating flat_map opened_all
was_accepted = refl

pub is_accepted : read_set v1 (encode v1 (updating (three ∷ []))) ≡ patches (updating (three ∷ []))
is_accepted = former_accepted v1 (encode v1 (updating (three ∷ []))) (updating (three ∷ [])) was_accepted

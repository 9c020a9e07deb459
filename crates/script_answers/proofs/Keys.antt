-- The records of keys as numbers: two numbers in a row are one record.
use Prim.Native.Nat.{ℕ, zero, suc, ◌+◌, ◌*◌, ◌<◌}
use mathlib.Core.Path.{◌≡◌, refl, sym, ap, ◌∙◌}
use mathlib.Core.List.{List}
use native.Mathlib.Omega.{arith}
use lib.ListN.{length, get_or, drop}
use lib.Seq.{get_or-drop}
use Rattle.spec_dependencies.specs.Dependencies.{CollectionKey}
use Rattle.spec_dependencies.specs.Answer.{pair_length}
use Rattle.spec_replay.specs.Answers.{first_keys}
use Rattle.script_answers.specs.DependenciesTold.{collection_key_of}

pub no_key : CollectionKey
no_key = collection_key_of 0 0

pub keys_counted : (n : ℕ) (words : List ℕ) → length (first_keys n words) ≡ n
unfolding first_keys
keys_counted zero words = refl
keys_counted (suc n) words = ap suc (keys_counted n (drop 2 words))

-- the record of an index
pub key_at : (n i : ℕ) (words : List ℕ) → i < n → collection_key_of (get_or words (pair_length * i) 0) (get_or words (pair_length * i + 1) 0) ≡ get_or (first_keys n words) i no_key
unfolding first_keys
key_at zero i words h = absurd (omega arith)
key_at (suc n) zero words h = refl
key_at (suc n) (suc i) words h =
    let first : pair_length * suc i ≡ 2 + pair_length * i = omega arith in
    let second : pair_length * suc i + 1 ≡ 2 + (pair_length * i + 1) = omega arith in
    let collections = ap (λ (k : ℕ). get_or words k 0) first ∙ sym (get_or-drop 2 words (pair_length * i) 0) in
    let keys = ap (λ (k : ℕ). get_or words k 0) second ∙ sym (get_or-drop 2 words (pair_length * i + 1) 0) in
    (λ j. collection_key_of (collections j) (keys j)) ∙ key_at n i (drop 2 words) (omega arith)

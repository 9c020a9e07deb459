-- The bytes of a settled row: written field by field, and read back.
use Prim.Native.Nat.{ℕ, ◌+◌, ◌-◌}
use mathlib.Core.Path.{◌≡◌, sym, ap, ◌∙◌}
use mathlib.Core.List.{List, [], ◌∷◌, ◌++◌, append_assoc}
use native.Mathlib.Omega.{arith}
use lib.Dec.{eqb}
use lib.ListN.{length, take, drop, get_or, set, length-append}
use lib.Seq.{set_at, take_at, drop_at, get_or_at}
use Rattle.spec_lists.specs.Bytes.{number_of}
use Rattle.spec_lists.proofs.BytesLaws.{length_little_endian, number_of_little_endian}
use Rattle.spec_patch.specs.Encode.{u64}
use Rattle.spec_dependencies.specs.Settled.{Settled}
use Rattle.bytes_records.specs.Moves.{zeros}
use Rattle.bytes_wire.specs.Write.{overwrite}
use Rattle.bytes_wire.proofs.WriteLaws.{has_room_lem, overwrite_in_place, overwrite_append}
use Rattle.set_dependencies.specs.SettledRows.{settled_key_at, at_start_at, present_at, flag, settled_row, row_width, FitsSettled}
use Rattle.set_dependencies.specs.SettledRowsLaws.{flag_told}

-- ---- written

module _ (s : Settled) where
  abbrev front : List ℕ
  front = u64 s.collection ++ u64 s.key

  front_long : length front ≡ at_start_at
  front_long = simp (length-append, length_little_endian) (omega arith)

  numbers : {one two : List ℕ} → one ≡ overwrite (zeros row_width) 0 (u64 s.collection) → two ≡ overwrite one settled_key_at (u64 s.key) → two ≡ front ++ (0 ∷ 0 ∷ [])
  numbers e f =
      f ∙ ap (λ (l : List ℕ). overwrite l settled_key_at (u64 s.key)) e
      ∙ overwrite_append (zeros row_width) 0 (u64 s.collection) (u64 s.key) 8 (length_little_endian 8 s.collection) (omega (arith, length_little_endian 8 s.key))
      ∙ overwrite_in_place (zeros row_width) 0 front at_start_at front_long (has_room_lem (zeros row_width) 0 at_start_at (omega arith))

  pub row_written : {one two : List ℕ} {a b : ℕ} → one ≡ overwrite (zeros row_width) 0 (u64 s.collection) → two ≡ overwrite one settled_key_at (u64 s.key) → a ≡ flag s.at_start → b ≡ flag s.now
      → set (set two at_start_at a) present_at b ≡ settled_row s
  unfolding settled_row
  row_written {one} {two} {a} {b} e f g h =
      let more : length (front ++ (a ∷ [])) ≡ present_at = length-append front (a ∷ []) ∙ omega (arith, front_long) in
      ap (λ (l : List ℕ). set (set l at_start_at a) present_at b) (numbers e f)
      ∙ ap (λ (l : List ℕ). set l present_at b) (set_at front 0 (0 ∷ []) a at_start_at front_long ∙ sym (append_assoc front (a ∷ []) (0 ∷ [])))
      ∙ set_at (front ++ (a ∷ [])) 0 [] b present_at more
      ∙ append_assoc front (a ∷ []) (b ∷ [])
      ∙ append_assoc (u64 s.collection) (u64 s.key) (a ∷ b ∷ [])
      ∙ (λ i. u64 s.collection ++ (u64 s.key ++ (g i ∷ h i ∷ [])))

-- ---- read

module _ (s : Settled) (fits : FitsSettled s) (row : List ℕ) (is : row ≡ settled_row s) where
  abbrev flags : List ℕ
  flags = flag s.at_start ∷ flag s.now ∷ []

  row_front : row ≡ front s ++ flags
  unfolding settled_row
  row_front = is ∙ sym (append_assoc (u64 s.collection) (u64 s.key) flags)

  pub reads_collection : number_of (take 8 row) ≡ s.collection
  unfolding settled_row
  reads_collection =
      ap (λ (l : List ℕ). number_of (take 8 l)) is ∙ ap number_of (take_at (u64 s.collection) (u64 s.key ++ flags) 8 (length_little_endian 8 s.collection))
      ∙ number_of_little_endian 8 s.collection fits.collection

  pub reads_key : number_of (take 8 (drop settled_key_at row)) ≡ s.key
  unfolding settled_row
  reads_key =
      ap (λ (l : List ℕ). number_of (take 8 (drop settled_key_at l))) is
      ∙ ap (λ (l : List ℕ). number_of (take 8 l)) (drop_at (u64 s.collection) (u64 s.key ++ flags) 8 (length_little_endian 8 s.collection))
      ∙ ap number_of (take_at (u64 s.key) flags 8 (length_little_endian 8 s.key))
      ∙ number_of_little_endian 8 s.key fits.key

  pub reads_start : eqb (get_or row at_start_at 0) 1 ≡ s.at_start
  reads_start = ap (λ (b : ℕ). eqb b 1) (ap (λ (l : List ℕ). get_or l at_start_at 0) row_front ∙ get_or_at (front s) (flag s.at_start) (flag s.now ∷ []) 0 at_start_at (front_long s)) ∙ flag_told s.at_start

  pub reads_now : eqb (get_or row present_at 0) 1 ≡ s.now
  reads_now =
      let more : length (front s ++ (flag s.at_start ∷ [])) ≡ present_at = length-append (front s) (flag s.at_start ∷ []) ∙ omega (arith, front_long s) in
      ap (λ (b : ℕ). eqb b 1) (ap (λ (l : List ℕ). get_or l present_at 0) (row_front ∙ sym (append_assoc (front s) (flag s.at_start ∷ []) (flag s.now ∷ [])))
      ∙ get_or_at (front s ++ (flag s.at_start ∷ [])) (flag s.now) [] 0 present_at more) ∙ flag_told s.now

-- What the reader of a value's shape answered, as the bytes of the value.
use Rattle.projection_patch.specs.Meaning.{value_to}
use Rattle.std.specs.Prelude as code
use Prim.Native.Nat.{ℕ, zero, suc, ◌+◌, ◌-◌, ◌*◌, ◌≤◌, ◌<◌}
use mathlib.Core.Path.{◌≡◌, refl, sym, ap, ap₂, ◌∙◌}
use mathlib.Core.Logic.{◌⊎◌, inl, inr}
use mathlib.Core.Bool.{Bool, true, false}
use mathlib.Core.List.{List, [], ◌∷◌, ◌++◌}
use native.Mathlib.Nat.{add-mul, min-le_left, eq-or-lt_of_le}
use native.Mathlib.Omega.{arith}
use lib.Dec.{ltb}
use lib.ListN.{length, take, drop, length-append, length-take, length-drop, take-append-drop}
use lib.Seq.{take-nil, take-take, drop-drop}
use Rattle.std.specs.Prelude.{if◌then◌else◌}
use Rattle.spec_lists.specs.Bytes.{number_of}
use Rattle.spec_patch.specs.Sizes.{projection_entries}
use Rattle.spec_patch.specs.Edition.{Edition}
use Rattle.spec_patch.specs.Patch.{Value}
use Rattle.spec_patch.specs.Reader.{Result, read, refused}
use Rattle.projection_patch.specs.ReadAnswers.{value_answer}
use Rattle.projection_patch.specs.declared.patch.ProjectionPatchValue.{ProjectionPatchValue}
use Rattle.projection_patch.specs.declared.read_values.ProjectionPatchReadFault.{ProjectionPatchReadFault}
use Rattle.bytes_records.specs.Moves.{overwrite_rows}
use Rattle.panel_rows.specs.Rows.{value_width, field_at}
use Rattle.panel_rows.specs.RowsLaws.{length_written}
use Rattle.panel_plan.specs.PlanRows.{source_width}
use Rattle.panel_writing.specs.Writing.{row_at, bytes_read, source_row, planned_row, RowRun}
use Rattle.panel_writing.specs.WritingLaws.{source_old}

module _ (set : List ℕ) (at : ℕ) where
  pub bytes_of_read : (r : Result Value) (x : ProjectionPatchValue) (end : ℕ) → code.Ok (x, end) ≡ value_answer (length set) r → drop at (take end set) ≡ bytes_read set at r
  bytes_of_read (read v rest) x end e =
      let both : ◌≡◌ {A = ProjectionPatchValue × ℕ} (x, end) (value_to (length set - length rest) v, length set - length rest) = cc e in
      let same : end ≡ length set - length rest = ap (λ (z : ProjectionPatchValue × ℕ). z.1) both in
      ap (λ (n : ℕ). drop at (take n set)) same
  bytes_of_read (refused f) x end e = absurd (let z : ◌≡◌ {A = ℕ} 0 1 = cc in omega arith)

  pub bytes_of_refused : (r : Result Value) (f : ProjectionPatchReadFault) → code.Err f ≡ value_answer (length set) r → [] ≡ bytes_read set at r
  bytes_of_refused (read v rest) f e = absurd (let z : ◌≡◌ {A = ℕ} 0 1 = cc in omega arith)
  bytes_of_refused (refused g) f e = refl

-- a row that was written by its source
module _ (ed : Edition) (key : ℕ) (row from set old : List ℕ) where
  pub planned_written : {exit : List ℕ} {n : ℕ} → n ≡ field_at key source_width row → exit ≡ source_row ed key (take key row) from set n old → exit ≡ planned_row ed key row from set old
  unfolding planned_row
  planned_written n-is e = e ∙ ap (λ n. source_row ed key (take key row) from set n old) n-is

-- how row i of the new table is written over what stands there
abbrev pub planned : Edition → (key : ℕ) (plan from set : List ℕ) → ℕ → List ℕ → List ℕ
planned ed key plan from set i old = planned_row ed key (row_at (key + source_width) i plan) from set old

keeps_length : (b : Bool) (x y l : List ℕ) → length x ≡ length l → length y ≡ length l → length (if b then x else y) ≡ length l
keeps_length true x y l h k = h
keeps_length false x y l h k = k

pub planned_keeps : (ed : Edition) (key : ℕ) (plan from set : List ℕ) (i : ℕ) (old : List ℕ) → length (planned ed key plan from set i old) ≡ length old
unfolding planned_row source_row
planned_keeps ed key plan from set i old =
    let n = field_at key source_width (row_at (key + source_width) i plan) in
    let rows = drop (n * (key + value_width)) from in
    let few : length (take (length old) rows) ≤ length old = rw (length-take (length old) rows) (min-le_left (length old) (length rows)) in
    keeps_length (ltb n projection_entries) _ _ old (length-append (take (length old) rows) _ ∙ omega (arith, length-drop (length (take (length old) rows)) old)) (length_written _ _ old)

-- ---- runs

drop_take : (k m n : ℕ) (l : List ℕ) → n ≡ k + m → drop k (take n l) ≡ take m (drop k l)
drop_take zero m n l e = let same : n ≡ m = omega arith in ap (λ (j : ℕ). take j l) same
drop_take (suc k) m n [] e = ap (drop (suc k)) (take-nil n) ∙ sym (take-nil m)
drop_take (suc k) m zero (x ∷ l) e = absurd (omega arith)
drop_take (suc k) m (suc n) (x ∷ l) e = drop_take k m n l (omega arith)

-- the source of a row is found where its row has it
pub field_there : (key : ℕ) (plan : List ℕ) (at : ℕ) → field_at key source_width (row_at (key + source_width) at plan) ≡ field_at (at * (key + source_width) + key) source_width plan
field_there key plan at =
    let rest = drop (at * (key + source_width)) plan in
    ap (λ (l : List ℕ). number_of (take source_width l)) (drop_take key source_width (key + source_width) rest refl) ∙ ap number_of (take-take source_width source_width (drop key rest) (omega arith))
    ∙ ap (λ (l : List ℕ). number_of (take source_width l)) (drop-drop key (at * (key + source_width)) plan)

module _ (key : ℕ) (plan : List ℕ) (i source : ℕ) where
  pub run_of_one : RowRun key plan i source 1
  run_of_one k some h = absurd (omega arith)

  pub run_and_next : (n : ℕ) → RowRun key plan i source n → field_at ((i + n) * (key + source_width) + key) source_width plan ≡ source + n → source + n < projection_entries → RowRun key plan i source (n + 1)
  run_and_next n run e low k some h = next (eq-or-lt_of_le {n = k} {m = n} (omega arith))
    where
      next : (k ≡ n) ⊎ (k < n) → (field_at key source_width (row_at (key + source_width) (i + k) plan) ≡ source + k) × (source + k < projection_entries)
      next (inr less) = run k some less
      next (inl same) = (field_there key plan (i + k) ∙ ap (λ (m : ℕ). field_at ((i + m) * (key + source_width) + key) source_width plan) same ∙ e ∙ ap (λ (m : ℕ). source + m) (sym same), omega arith)

-- ---- rows of the table before the batch, in one copy

-- a copy is that of its parts
overwrite_split : (a : ℕ) (s t : List ℕ) → a ≤ length t → overwrite_rows (take (length t) s) t ≡ overwrite_rows (take (length (take a t)) s) (take a t) ++ overwrite_rows (take (length (drop a t)) (drop a s)) (drop a t)
overwrite_split zero s t h = refl
overwrite_split (suc a) s [] h = absurd (omega arith)
overwrite_split (suc a) [] (y ∷ t) h = rw (take-nil (length (drop a t))) (sym (ap (λ (l : List ℕ). y ∷ l) (take-append-drop a t)))
overwrite_split (suc a) (x ∷ s) (y ∷ t) h = ap (λ (l : List ℕ). x ∷ l) (overwrite_split a s t (omega arith))

-- the rows of a run, and the one behind them
pub planned_splits : (ed : Edition) (key : ℕ) (plan from set : List ℕ) (i n : ℕ) → RowRun key plan i (field_at key source_width (row_at (key + source_width) i plan)) n
    → (k : ℕ) → 1 ≤ k → k < n → (l : List ℕ) → length l ≡ k * (key + value_width) + (key + value_width)
    → planned ed key plan from set i l ≡ planned ed key plan from set i (take (k * (key + value_width)) l) ++ planned ed key plan from set (i + k) (drop (k * (key + value_width)) l)
unfolding planned_row
planned_splits ed key plan from set i n run k some h l size =
    let w = key + value_width in
    let first = row_at (key + source_width) i plan in
    let next = row_at (key + source_width) (i + k) plan in
    let s = field_at key source_width first in
    let low : s < projection_entries = omega (arith, (run k some h).1) in
    let behind : drop (k * w) (drop (s * w) from) ≡ drop ((s + k) * w) from = drop-drop (k * w) (s * w) from ∙ ap (λ (m : ℕ). drop m from) (sym (add-mul s k w)) in
    source_old ed key (take key first) from set s l low ∙ overwrite_split (k * w) (drop (s * w) from) l (omega arith)
    ∙ ap₂ (λ (a b : List ℕ). a ++ b) (sym (source_old ed key (take key first) from set s (take (k * w) l) low))
    (ap (λ (r : List ℕ). overwrite_rows (take (length (drop (k * w) l)) r) (drop (k * w) l)) behind ∙ sym (source_old ed key (take key next) from set (s + k) (drop (k * w) l) (run k some h).1)
    ∙ ap (λ (m : ℕ). source_row ed key (take key next) from set m (drop (k * w) l)) (sym (run k some h).0))

pub planned_by : (ed : Edition) (key : ℕ) (plan from set : List ℕ) (i : ℕ) (old : List ℕ) {row part : List ℕ} → row ≡ row_at (key + source_width) i plan
    → part ≡ planned_row ed key row from set old → part ≡ planned ed key plan from set i old
planned_by ed key plan from set i old is e = e ∙ ap (λ row. planned_row ed key row from set old) is

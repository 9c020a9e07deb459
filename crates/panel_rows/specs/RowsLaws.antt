-- Laws of rows: their widths, that a row tells its record, and that the searches in a table see the model's keys.
use Rattle.std.specs.Prelude.{ℕ, ◌+◌, ◌-◌, ◌^◌, ◌≤◌, ◌<◌, ◌≡◌, Bool, true, leb, drop}
use Rattle.std.proofs.Math.Path.{refl, ap, ap₂}
use Rattle.std.proofs.Common.{sym, ◌∙◌, length-append, take_at, drop_at}
use mathlib.Core.List.{List, [], ◌∷◌, ◌++◌, append_assoc}
use native.Mathlib.Omega.{arith}
use borrow.Author.Tests.{leb-true, leb-false, le-leb, lt-leb}
use Rattle.std.proofs.Math.ListN.{length}
use Rattle.std.proofs.lemmas.List.{length-replicate}
use Rattle.std.proofs.Math.Seq.{get_or_at}
use Rattle.spec_lists.specs.Bytes.{little_endian}
use Rattle.spec_lists.proofs.ListLaws.{test_cases}
use Rattle.spec_lists.proofs.BytesLaws.{length_little_endian, number_of_little_endian}
use Rattle.spec_patch.specs.Patch.{Value, quad, signed, text, unsigned, score}
use Rattle.spec_patch.specs.Edition.{v2, added_kinds, kinds, has_kind}
use Rattle.spec_patch.specs.Encode.{u32, u64, encode_text, kind_of, value_body, encode_value, availability_byte}
use Rattle.spec_patch.specs.Fits.{Storable, StorableBy, FitsValue}
use Rattle.spec_patch.specs.Reader.{Result, read, Reader}
use Rattle.spec_patch.specs.Read.{read_value_by}
use Rattle.spec_patch.proofs.Codec.{Codec, pair_codec, injective}
use Rattle.spec_patch.proofs.ReadLaws.{u64_codec, u32_codec, value_codec_by, value_any, availability_codec}
use Rattle.spec_projection.specs.Projection.{Binding, NodeAvailability, Entry, binding_key, availability_key}
use Rattle.spec_projection.specs.Valid.{FitsBinding, FitsNodeAvailability, FitsEntry}
use Rattle.spec_lengths.specs.Lengths.{CollectionLength, FitsLength}
use Rattle.bytes_records.specs.Moves.{zeros}
use Rattle.bytes_records.specs.Keys.{leading_numbers}
use Rattle.bytes_records.specs.Table.{Wide}
use Rattle.panel_rows.specs.Rows.{id_width, slot_width, mark_width, value_width, binding_slot_at, binding_mark_at, binding_value_at, binding_width, availability_mark_at, availability_at, availability_width, entry_key_at, entry_mark_at, entry_value_at, entry_width, length_width, padded, binding_row, availability_row, entry_row, length_row, field_at, node_in, slot_in, availability_in, collection_in, key_in, binding_mark_in, availability_mark_in, entry_mark_in, binding_fields, availability_fields, filled_row, written_row}

-- ---- widths

value_fits : (v : Value) → Storable v → length (encode_value v) ≤ value_width
unfolding encode_value value_body encode_text StorableBy
value_fits (quad q) h = omega arith
value_fits (signed z) h = simp length_little_endian (omega arith)
value_fits (text t) h = simp (length-append, length_little_endian) (omega (arith, h.short))
value_fits (unsigned x) h = simp length_little_endian (omega arith)
value_fits (score n) h = omega arith

pub length_padded : (v : Value) → Storable v → length (padded v) ≡ value_width
unfolding padded
length_padded v h = simp (length-append, length-replicate) (omega (arith, value_fits v h))

pub binding_wide : (b : Binding) → FitsBinding b → Wide binding_width (binding_row b)
unfolding binding_row
binding_wide b h = simp (length-append, length_little_endian) (omega (arith, length_padded b.value h.value))

pub availability_wide : (a : NodeAvailability) → FitsNodeAvailability a → Wide availability_width (availability_row a)
unfolding availability_row
availability_wide a h = simp (length-append, length_little_endian)

pub entry_wide : (e : Entry) → FitsEntry e → Wide entry_width (entry_row e)
unfolding entry_row
entry_wide e h = simp (length-append, length_little_endian) (omega (arith, length_padded e.value h.value))

pub length_wide : (x : CollectionLength) → FitsLength x → Wide length_width (length_row x)
unfolding length_row
length_wide x h = simp (length-append, length_little_endian)

-- ---- where a row holds its value

pub regroup : (a b c d : List ℕ) → (a ++ (b ++ c)) ++ d ≡ a ++ (b ++ (c ++ d))
regroup a b c d = simp append_assoc

three_behind : (n : ℕ) (a b c d : List ℕ) → length (a ++ (b ++ c)) ≡ n → drop n (a ++ (b ++ (c ++ d))) ≡ d
three_behind n a b c d long = ap (drop n) (sym (regroup a b c d)) ∙ drop_at (a ++ (b ++ c)) d n long

pub binding_behind : (b : Binding) → drop binding_value_at (binding_row b) ≡ padded b.value
unfolding binding_row
binding_behind b = three_behind binding_value_at (u64 b.node) (u32 b.slot) (u64 b.mark) (padded b.value) (simp (length-append, length_little_endian))

pub entry_behind : (e : Entry) → drop entry_value_at (entry_row e) ≡ padded e.value
unfolding entry_row
entry_behind e = three_behind entry_value_at (u64 e.collection) (u64 e.key) (u64 e.mark) (padded e.value) (simp (length-append, length_little_endian))

-- ---- a row tells its record

-- the second edition has every kind of value
every_kind : (v : Value) → has_kind v2 (kind_of v) ≡ true
unfolding added_kinds kinds has_kind kind_of
every_kind (quad q) = refl
every_kind (signed z) = refl
every_kind (text t) = refl
every_kind (unsigned x) = refl
every_kind (score n) = refl

pub storable_fits : (v : Value) → Storable v → FitsValue v2 v
storable_fits v h = record { kind = every_kind v; storable = h }

-- the reader of values reads a stored value, whether it checks texts or not
pub read_padded : (check : Bool) (v : Value) → Storable v → read_value_by check v2 (padded v) ≡ read v (zeros (value_width - length (encode_value v)))
unfolding padded
read_padded check v h = (value_codec_by check v2).back v (value_any check v2 v (storable_fits v h)) _

-- two values that are read from the same bytes are the same
same_read : {A : Type 0} {x y : A} {r s : List ℕ} → ◌≡◌ {A = Result A} (read x r) (read y s) → x ≡ y
same_read e = cc

-- bytes that a codec's values begin with tell the value
tells : {A : Type 0} {e : A → List ℕ} {Good : A → Type 0} {p : Reader A} → Codec e Good p → (x y : A) → Good x → Good y → (r s : List ℕ) → e x ++ r ≡ e y ++ s → x ≡ y
tells {p = p} codec x y g h r s q = same_read (sym (codec.back x g r) ∙ ap p q ∙ codec.back y h s)

-- four fields and zeros
with_zeros : (a b c d z : List ℕ) → (a ++ (b ++ (c ++ d))) ++ z ≡ a ++ (b ++ (c ++ (d ++ z)))
with_zeros a b c d z = simp append_assoc

pub binding_tells : (a b : Binding) → FitsBinding a → FitsBinding b → binding_row a ≡ binding_row b → a ≡ b
unfolding binding_row padded
binding_tells a b g h e =
    let fields = tells (pair_codec u64_codec (pair_codec u32_codec (pair_codec u64_codec (value_codec_by true v2))))
    (a.node, (a.slot, (a.mark, a.value))) (b.node, (b.slot, (b.mark, b.value)))
    (g.node, (g.slot, (g.mark, storable_fits a.value g.value))) (h.node, (h.slot, (h.mark, storable_fits b.value h.value)))
    (zeros (value_width - length (encode_value a.value))) (zeros (value_width - length (encode_value b.value)))
    (with_zeros (u64 a.node) (u32 a.slot) (u64 a.mark) (encode_value a.value) _ ∙ e ∙ sym (with_zeros (u64 b.node) (u32 b.slot) (u64 b.mark) (encode_value b.value) _)) in
    λ i. record { node = (fields i).0; slot = (fields i).1.0; mark = (fields i).1.1.0; value = (fields i).1.1.1 }

pub availability_tells : (a b : NodeAvailability) → FitsNodeAvailability a → FitsNodeAvailability b → availability_row a ≡ availability_row b → a ≡ b
unfolding availability_row
availability_tells a b g h e =
    let fields = injective (pair_codec u64_codec (pair_codec u64_codec availability_codec))
    (a.node, (a.mark, a.availability)) (b.node, (b.mark, b.availability)) (g.node, (g.mark, tt)) (h.node, (h.mark, tt)) e in
    λ i. record { node = (fields i).0; mark = (fields i).1.0; availability = (fields i).1.1 }

pub entry_tells : (a b : Entry) → FitsEntry a → FitsEntry b → entry_row a ≡ entry_row b → a ≡ b
unfolding entry_row padded
entry_tells a b g h e =
    let fields = tells (pair_codec u64_codec (pair_codec u64_codec (pair_codec u64_codec (value_codec_by true v2))))
    (a.collection, (a.key, (a.mark, a.value))) (b.collection, (b.key, (b.mark, b.value)))
    (g.collection, (g.key, (g.mark, storable_fits a.value g.value))) (h.collection, (h.key, (h.mark, storable_fits b.value h.value)))
    (zeros (value_width - length (encode_value a.value))) (zeros (value_width - length (encode_value b.value)))
    (with_zeros (u64 a.collection) (u64 a.key) (u64 a.mark) (encode_value a.value) _ ∙ e ∙ sym (with_zeros (u64 b.collection) (u64 b.key) (u64 b.mark) (encode_value b.value) _)) in
    λ i. record { collection = (fields i).0; key = (fields i).1.0; mark = (fields i).1.1.0; value = (fields i).1.1.1 }

pub length_tells : (x y : CollectionLength) → FitsLength x → FitsLength y → length_row x ≡ length_row y → x ≡ y
unfolding length_row
length_tells x y g h e =
    let fields = injective (pair_codec u64_codec u64_codec) (x.collection, x.length) (y.collection, y.length) (g.collection, g.length) (h.collection, h.length) e in
    λ i. record { collection = (fields i).0; length = (fields i).1 }

-- ---- the fields of a row

pub field_behind : (front rest : List ℕ) (at n x : ℕ) → length front ≡ at → x < 256 ^ n → field_at at n (front ++ (little_endian n x ++ rest)) ≡ x
field_behind front rest at n x long small =
    rw (drop_at front (little_endian n x ++ rest) at long, take_at (little_endian n x) rest n (length_little_endian n x), number_of_little_endian n x small)

-- a mark behind two fields
mark_behind : (a b rest : List ℕ) (at m : ℕ) → length (a ++ b) ≡ at → m < 256 ^ mark_width → field_at at mark_width (a ++ (b ++ (u64 m ++ rest))) ≡ m
mark_behind a b rest at m long small = ap (field_at at mark_width) (sym (append_assoc a b (u64 m ++ rest))) ∙ field_behind (a ++ b) rest at mark_width m long small

module _ (b : Binding) (h : FitsBinding b) where
  pub binding_node : node_in (binding_row b) ≡ b.node
  unfolding binding_row
  binding_node = field_behind [] _ 0 id_width b.node refl h.node

  pub binding_slot : slot_in (binding_row b) ≡ b.slot
  unfolding binding_row
  binding_slot = field_behind (u64 b.node) _ binding_slot_at slot_width b.slot (length_little_endian id_width b.node) h.slot

  pub binding_mark_lem : binding_mark_in (binding_row b) ≡ b.mark
  unfolding binding_row
  binding_mark_lem = mark_behind (u64 b.node) (u32 b.slot) (padded b.value) binding_mark_at b.mark (simp (length-append, length_little_endian)) h.mark

  pub binding_key_lem : leading_numbers binding_fields (binding_row b) ≡ binding_key b
  unfolding binding_key leading_numbers
  binding_key_lem = ap₂ (λ (x y : ℕ). x ∷ y ∷ []) binding_node binding_slot

module _ (a : NodeAvailability) where
  pub availability_node : FitsNodeAvailability a → node_in (availability_row a) ≡ a.node
  unfolding availability_row
  availability_node h = field_behind [] _ 0 id_width a.node refl h.node

  pub availability_key_lem : FitsNodeAvailability a → leading_numbers availability_fields (availability_row a) ≡ availability_key a
  unfolding availability_key leading_numbers
  availability_key_lem h = ap (λ (x : ℕ). x ∷ []) (availability_node h)

  pub availability_mark_lem : FitsNodeAvailability a → availability_mark_in (availability_row a) ≡ a.mark
  unfolding availability_row
  availability_mark_lem h = field_behind (u64 a.node) _ availability_mark_at mark_width a.mark (length_little_endian id_width a.node) h.mark

  pub availability_byte_lem : availability_in (availability_row a) ≡ availability_byte a.availability
  unfolding availability_row
  availability_byte_lem =
      ap availability_in (sym (append_assoc (u64 a.node) (u64 a.mark) (availability_byte a.availability ∷ [])))
      ∙ get_or_at (u64 a.node ++ u64 a.mark) (availability_byte a.availability) [] 0 availability_at (simp (length-append, length_little_endian))

-- an entry that stands for none
unfoldable pub no_entry : Entry
no_entry = record { collection = 0; key = 0; mark = 0; value = unsigned 0 }

module _ (e : Entry) (h : FitsEntry e) where
  pub entry_collection : collection_in (entry_row e) ≡ e.collection
  unfolding entry_row
  entry_collection = field_behind [] _ 0 id_width e.collection refl h.collection

  pub entry_key : key_in (entry_row e) ≡ e.key
  unfolding entry_row
  entry_key = field_behind (u64 e.collection) _ entry_key_at id_width e.key (length_little_endian id_width e.collection) h.key

  pub entry_mark_lem : entry_mark_in (entry_row e) ≡ e.mark
  unfolding entry_row
  entry_mark_lem = mark_behind (u64 e.collection) (u64 e.key) (padded e.value) entry_mark_at e.mark (simp (length-append, length_little_endian)) h.mark

-- ---- rows that are written

module _ (key value row : List ℕ) where
  pub written_filled : length key + length value ≤ length row → written_row key value row ≡ filled_row (length row) key value
  unfolding written_row
  written_filled room = rw (le-leb (length key + length value) (length row) room)

  pub written_left : length row < length key + length value → written_row key value row ≡ row
  unfolding written_row
  written_left over = rw (lt-leb (length key + length value) (length row) over)

  pub length_written : length (written_row key value row) ≡ length row
  unfolding filled_row
  length_written = test_cases (leb (length key + length value) (length row))
      (λ t. let room = leb-true (length key + length value) (length row) t in
      ap length (written_filled room) ∙ simp (length-append, length-replicate) (omega arith))
      (λ t. ap length (written_left (leb-false (length key + length value) (length row) t)))

-- a value's canonical bytes make its row
module _ (key row : List ℕ) (room : length key + value_width ≡ length row) (v : Value) (h : Storable v) where
  pub written_encoded : written_row key (encode_value v) row ≡ key ++ padded v
  unfolding filled_row padded
  written_encoded =
      let rest : length row - (length key + length (encode_value v)) ≡ value_width - length (encode_value v) = omega arith in
      written_filled key (encode_value v) row (omega (arith, value_fits v h)) ∙ ap (λ (n : ℕ). key ++ (encode_value v ++ zeros n)) rest

-- Which heads and tables have a session's shape, computed.
use Rattle.std.specs.Prelude.{ℕ, ◌+◌, ◌≡◌, refl, true, false, List, [], ◌∷◌, take}
use Rattle.spec_patch.specs.Sizes.{projection_bindings, projection_entries}
use Rattle.panel_rows.specs.Rows.{binding_bytes, availability_bytes, entry_bytes, length_bytes}
use Rattle.session_lent.specs.LentSession.{table_shaped, bindings_shaped, availabilities_shaped, entries_shaped}
use Rattle.session_lent_views.specs.Views.{lengths_shaped}

-- a head of session 7, Active, with so many bindings and entries
abbrev counted : ℕ → ℕ → List ℕ
counted b e = 7 ∷ 1 ∷ 0 ∷ 0 ∷ 4096 ∷ 4 ∷ 64 ∷ 512 ∷ b ∷ 3 ∷ e ∷ []

pub full_tables : (bindings_shaped (counted projection_bindings projection_entries) binding_bytes ≡ true) × (entries_shaped (counted projection_bindings projection_entries) entry_bytes ≡ true)
unfolding table_shaped
full_tables = (refl, refl)

pub one_row_too_many : (bindings_shaped (counted (projection_bindings + 1) 0) binding_bytes ≡ false) × (entries_shaped (counted 0 (projection_entries + 1)) entry_bytes ≡ false)
unfolding table_shaped
one_row_too_many = (refl, refl)

-- a table is not asked for the count of another
pub another_count : availabilities_shaped (counted (projection_bindings + 1) 0) availability_bytes ≡ true
unfolding table_shaped
another_count = refl

pub one_byte_too_many : entries_shaped (counted 0 0) (entry_bytes + 1) ≡ false
unfolding table_shaped
one_byte_too_many = refl

pub ten_numbers : entries_shaped (take 10 (counted 0 0)) entry_bytes ≡ false
unfolding table_shaped
ten_numbers = refl

-- the table of lengths has its own length, and goes with a head whose entries are not too many
pub shaped_lengths : (lengths_shaped (counted 0 projection_entries) length_bytes ≡ true) × ((lengths_shaped (counted 0 0) entry_bytes ≡ false) × (lengths_shaped (counted 0 (projection_entries + 1)) length_bytes ≡ false))
unfolding table_shaped
shaped_lengths = (refl, (refl, refl))

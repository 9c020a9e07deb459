-- The answer table of a page in bytes: one row of fixed width for each key, and what the call answers.
use Rattle.std.specs.Prelude as code
use Rattle.std.specs.Prelude.{ℕ, ◌+◌, ◌*◌, ◌≡◌, drop}
use mathlib.Core.List.{List, ◌∷◌, ◌++◌, map, flatten}
use Rattle.std.proofs.Math.Option.{Option, none, some}
use Rattle.spec_patch.specs.Encode.{u64}
use Rattle.spec_patch.specs.Fits.{U64, Storable}
use Rattle.spec_projection.specs.Projection.{Projection}
use Rattle.spec_page.specs.Page as model
use Rattle.spec_page.specs.Page.{PageEntry, page_rows}
use Rattle.bytes_records.specs.Moves.{zeros}
use Rattle.panel_rows.specs.Rows.{mark_width, value_width, padded}
use Rattle.panel_rows.specs.Lookup.{no_value, found_value}
use Rattle.panel_page.specs.declared.PageRefusal.{PageRefusal}
use Rattle.panel_page.specs.declared.PageRefusal.TheVariants.{TooManyKeys, TooFewPlaces}
use Rattle.panel_page.specs.declared.rows.PageLookup.{PageLookup}

-- ---- rows

-- whether the key was found, its position, its mark and its value
abbrev pub found_width : ℕ
found_width = 1

abbrev pub position_width : ℕ
position_width = 8

abbrev pub page_mark_at : ℕ
page_mark_at = found_width + position_width

abbrev pub page_value_at : ℕ
page_value_at = page_mark_at + mark_width

abbrev pub page_width : ℕ
page_width = page_value_at + value_width

-- all zero where there is none
unfoldable pub answer_row : Option PageEntry → List ℕ
answer_row none = zeros page_width
answer_row (some x) = 1 ∷ (u64 x.position ++ (u64 x.mark ++ padded x.value))

-- the rows of the keys, one after the other
unfoldable pub page_bytes : Projection → ℕ → List ℕ → List ℕ
page_bytes p c keys = flatten (map answer_row (page_rows p c keys))

-- ---- a row taken apart

-- numbers that are u64, a value that can be stored
abbrev pub FitsAnswer : Option PageEntry → Type 0
FitsAnswer none = Unit {0}
FitsAnswer (some x) = U64 x.position × (U64 x.mark × Storable x.value)

unfoldable pub page_lookup : Option PageEntry → PageLookup
page_lookup none = record { position = 0; value = no_value }
page_lookup (some x) = record { position = x.position; value = found_value x.mark x.value }

-- ---- what the call answers

abbrev pub page_refusal_of : PageRefusal → model.PageRefusal
page_refusal_of TooManyKeys = model.too_many_keys
page_refusal_of TooFewPlaces = model.too_few_places

-- the refusal, or so many rows
abbrev pub page_answer : ℕ → Option model.PageRefusal → code.Result ℕ PageRefusal
page_answer n none = code.Ok n
page_answer n (some model.too_many_keys) = code.Err TooManyKeys
page_answer n (some model.too_few_places) = code.Err TooFewPlaces

-- places behind the rows stay, and a refusal leaves every byte
abbrev pub OtherPlacesKept : List ℕ → List ℕ → code.Result ℕ PageRefusal → Type 0
OtherPlacesKept before after (code.Ok n) = drop (n * page_width) after ≡ drop (n * page_width) before
OtherPlacesKept before after (code.Err f) = after ≡ before

-- What a page hands to its printing in a script, and the line of a place.
use Rattle.std.specs.Prelude.{ℕ, ◌≡◌, List, [], ◌∷◌, length, if◌then◌else◌, Result}
use Rattle.spec_decimal.specs.Decimal.{decimal}
use Rattle.spec_projection.specs.Projection.{Projection}
use Rattle.spec_projection.specs.Valid.{Valid}
use Rattle.spec_listing.specs.Listing.{fields}
use Rattle.spec_page.specs.Page.{page_refusal, table_left}
use Rattle.spec_replay.specs.Answers.{dash}
use Rattle.listing_lines.specs.LookupFields.{lookup_fields}
use Rattle.panel_page.specs.PageTable.{page_bytes, page_answer}
use Rattle.panel_page.specs.declared.PageRefusal.{PageRefusal}
use Rattle.panel_page.specs.declared.rows.PageLookup.{PageLookup}

-- M, position and value of what was found, or a dash
unfoldable pub row_lookup_line : PageLookup → List ℕ
row_lookup_line l = 77 ∷ fields (if l.value.found then decimal l.position ∷ lookup_fields l.value else dash ∷ [])

-- the answer of a page of a projection into so many places, and the answer table that it left of them
pub record PageTold (p : Projection) (c : ℕ) (keys : List ℕ) (places : ℕ) (answer : Result ℕ PageRefusal) (output : List ℕ) : Type 0 where
  pub valid : Valid p
  pub answered : answer ≡ page_answer (length keys) (page_refusal (length keys) places)
  pub before : List ℕ
  pub written : output ≡ table_left (page_refusal (length keys) places) (page_bytes p c keys) before

-- Where the reading of a set stops, and by which rule. What is read is told by `read_set`; here only the way through the fields is followed, and a
-- field is told by the bytes from it to the end. 01, 'Canonical bytes' and step 4; 02, 'Job 5', 'Job 6' and 'Job 13'.
use Rattle.std.specs.Prelude.{ℕ, zero, suc, ◌-◌, true, List, [], ◌∷◌, leb, eqb, length, if◌then◌else◌}
use Rattle.std.proofs.Math.Option.{Option, none, some}
use Rattle.spec_patch.specs.Sizes.{set_bytes, set_patches, patch_operations, highest_score}
use Rattle.spec_patch.specs.TextRule.{few_bytes, allowed, few_characters}
use Rattle.spec_patch.specs.Edition.{Edition, v1, v2}
use Rattle.spec_patch.specs.Encode.{heading}
use Rattle.spec_patch.specs.Reader.{Result, read, refused, Reader, byte, bytes}
use Rattle.spec_patch.specs.Read.{read_u32, read_u64}
use Rattle.spec_explain.specs.ReadingRule.{ReadingRule, set_too_long, wrong_heading, too_few_bytes, operation_tag, value_kind, optional_tag, availability_tag, quad_tag, score_range, not_utf8, patch_count, operation_count_lem, text_length, character_count, bytes_left, Inside, outside, in_patch, in_operation, Unread}

-- the rule, the place, and how many bytes there are from the field on
pub record Stop : Type 0 where
  pub rule : ReadingRule
  pub inside : Inside
  pub left : ℕ

-- the bytes behind what was passed, or where reading stopped
pub data Located : Type 0 where
  past : List ℕ → Located
  stop : Stop → Located

abbrev pub Locator : Type 0
Locator = List ℕ → Located

-- ---- the ways of putting them together

-- reading stops by a rule at the field that begins these bytes
abbrev pub stop_at : ReadingRule → Locator
stop_at rule field = stop (record { rule = rule; inside = outside; left = length field })

-- goes on behind what was passed
abbrev pub go_on : Located → Locator → Located
go_on (past rest) l = l rest
go_on (stop s) l = stop s

infixr 95 ◌⨟◌
-- one after the other
abbrev pub ◌⨟◌ : Locator → Locator → Locator
(a ⨟ b) bs = go_on (a bs) b

-- what follows a field that was read; one that was not has too few bytes
abbrev pub behind : {A : Type 0} → List ℕ → Result A → (A → Locator) → Located
behind field (read a rest) next = next a rest
behind field (refused f) next = stop_at too_few_bytes field

-- a field, and what it says of the bytes behind it
abbrev pub field_then : {A : Type 0} → Reader A → (A → Locator) → Locator
field_then p next field = behind field (p field) next

abbrev pub field : {A : Type 0} → Reader A → Locator
field p = field_then p (λ a rest. past rest)

-- a tag, and what follows it
pub record TagRow : Type 0 where
  pub tag : ℕ
  pub follows : Locator

infix 90 ◌⇒◌
abbrev pub ◌⇒◌ : ℕ → Locator → TagRow
t ⇒ l = record { tag = t; follows = l }

-- what follows the tag t; where no row has it, reading stops at the tag
unfoldable pub by_row : ReadingRule → List TagRow → (field : List ℕ) → ℕ → Locator
by_row rule [] field t rest = stop_at rule field
by_row rule (row ∷ rows) field t rest = if eqb t row.tag then row.follows rest else by_row rule rows field t rest

-- a byte that tells what follows
abbrev pub tagged : ReadingRule → List TagRow → Locator
tagged rule rows field = field_then byte (by_row rule rows field) field

-- n times, counted from i on
unfoldable pub repeated : (ℕ → Locator) → ℕ → ℕ → Locator
repeated l i zero bs = past bs
repeated l i (suc n) bs = go_on (l i bs) (repeated l (suc i) n)

-- a count within its capacity, and so many times
abbrev pub counted : ReadingRule → ℕ → (ℕ → Locator) → Locator
counted rule capacity l field = field_then read_u32 (λ n rest. if leb n capacity then repeated l 0 n rest else stop_at rule field) field

-- the place of a stop that has none yet
abbrev pub placed : Inside → Inside → Inside
placed here outside = here
placed here (in_patch i) = in_patch i
placed here (in_operation i j) = in_operation i j

abbrev pub placed_stop : Inside → Located → Located
placed_stop here (past rest) = past rest
placed_stop here (stop s) = stop (record { rule = s.rule; inside = placed here s.inside; left = s.left })

abbrev pub within : Inside → Locator → Locator
within here l bs = placed_stop here (l bs)

-- ---- the fields of a set

abbrev pub ends : Locator
ends rest = past rest

-- byte 0, or 1 and the number
unfoldable pub locate_optional : Locator
locate_optional = tagged optional_tag (0 ⇒ ends ∷ 1 ⇒ field read_u64 ∷ [])

unfoldable pub locate_quad : Locator
locate_quad = tagged quad_tag (0 ⇒ ends ∷ 1 ⇒ ends ∷ 2 ⇒ ends ∷ 3 ⇒ ends ∷ [])

unfoldable pub locate_availability : Locator
locate_availability = tagged availability_tag (0 ⇒ ends ∷ 1 ⇒ ends ∷ 2 ⇒ ends ∷ 3 ⇒ ends ∷ 4 ⇒ ends ∷ [])

-- a text's length, then its bytes: all there, no more than their capacity (at the length's field), allowed, and few enough characters
unfoldable pub locate_text : Locator
locate_text field =
    field_then read_u32 (λ n text. field_then (bytes n) (λ t rest.
    if few_bytes t then (if allowed true t then (if few_characters true t then past rest else stop_at character_count text) else stop_at not_utf8 text) else stop_at text_length field) text) field

unfoldable pub locate_score : Locator
locate_score field = field_then byte (λ n rest. if leb n highest_score then past rest else stop_at score_range field) field

-- a score, where the edition has them
unfoldable pub score_row : Edition → List TagRow
score_row v1 = []
score_row v2 = 5 ⇒ locate_score ∷ []

unfoldable pub locate_value : Edition → Locator
locate_value ed = tagged value_kind (1 ⇒ locate_quad ∷ 2 ⇒ field read_u64 ∷ 3 ⇒ locate_text ∷ 4 ⇒ field read_u64 ∷ score_row ed)

unfoldable pub locate_operation : Edition → Locator
locate_operation ed = tagged operation_tag (
    1 ⇒ field read_u64 ⨟ field read_u32 ⨟ locate_value ed
    ∷ 2 ⇒ field read_u64 ⨟ locate_availability
    ∷ 3 ⇒ field read_u64 ⨟ field read_u64 ⨟ locate_optional ⨟ locate_value ed
    ∷ 4 ⇒ field read_u64 ⨟ field read_u64 ⨟ locate_value ed
    ∷ 5 ⇒ field read_u64 ⨟ field read_u64
    ∷ 6 ⇒ field read_u64 ⨟ field read_u64 ⨟ locate_optional
    ∷ [])

-- id, stream, document; surface; previous revision, revision, epoch, sequence
unfoldable pub locate_envelope : Locator
locate_envelope = field read_u64 ⨟ field read_u64 ⨟ field read_u64 ⨟ locate_optional ⨟ field read_u64 ⨟ field read_u64 ⨟ field read_u64 ⨟ field read_u64

-- the patch of index i
unfoldable pub locate_patch : Edition → ℕ → Locator
locate_patch ed i = within (in_patch i) (locate_envelope ⨟ counted operation_count_lem patch_operations (λ j. within (in_operation i j) (locate_operation ed)))

-- just these bytes; each byte of the heading is a field
unfoldable pub locate_letters : List ℕ → Locator
locate_letters [] bs = past bs
locate_letters (x ∷ xs) field = field_then byte (λ b rest. if eqb b x then locate_letters xs rest else stop_at wrong_heading field) field

unfoldable pub locate_patches : Edition → Locator
locate_patches ed = locate_letters (heading ed) ⨟ counted patch_count set_patches (locate_patch ed)

-- ---- a whole set

-- bytes left at the end are a field of their own
unfoldable pub at_end : Located → Option Stop
at_end (past []) = none
at_end (past (b ∷ rest)) = some (record { rule = bytes_left; inside = outside; left = length (b ∷ rest) })
at_end (stop s) = some s

-- a set that is too long is stopped at before its first byte
unfoldable pub stop_of : Edition → List ℕ → Option Stop
stop_of ed set = if leb (length set) set_bytes then at_end (locate_patches ed set) else some (record { rule = set_too_long; inside = outside; left = length set })

-- the position is counted from the start
abbrev pub from_start : List ℕ → Option Stop → Option Unread
from_start set none = none
from_start set (some s) = some (record { rule = s.rule; inside = s.inside; position = length set - s.left })

-- where the reading of a set stops, or none for a set that is read
unfoldable pub locate : Edition → List ℕ → Option Unread
locate ed set = from_start set (stop_of ed set)

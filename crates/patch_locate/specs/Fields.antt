-- The fields of operations and envelopes as the code goes through them.
use Rattle.std.specs.Prelude.{ℕ, true, List, [], ◌∷◌, leb, eqb, if◌then◌else◌}
use Rattle.spec_patch.specs.Sizes.{patch_operations}
use Rattle.spec_patch.specs.TextRule.{few_bytes, allowed, few_characters}
use Rattle.spec_patch.specs.Edition.{Edition}
use Rattle.spec_patch.specs.Reader.{byte, bytes}
use Rattle.spec_patch.specs.Read.{read_u32, read_u64}
use Rattle.spec_explain.specs.ReadingRule.{ReadingRule, not_utf8, operation_count_lem, text_length, character_count, in_operation}
use Rattle.spec_explain.specs.Locate.{Locator, past, stop_at, ◌⨟◌, field_then, field, counted, within, locate_optional, locate_availability, locate_value, locate_operation, locate_envelope}

-- a byte that is at most the highest
unfoldable pub field_at_most : ReadingRule → ℕ → Locator
field_at_most rule highest field = field_then byte (λ n rest. if leb n highest then past rest else stop_at rule field) field

-- the n bytes of a text behind its length, with which the first list begins
unfoldable pub text_after : List ℕ → ℕ → Locator
text_after field n text =
    field_then (bytes n) (λ t rest.
    if few_bytes t then (if allowed true t then (if few_characters true t then past rest else stop_at character_count text) else stop_at not_utf8 text) else stop_at text_length field) text

-- a field by its letter: N, S, O, A, and any other for a value
unfoldable pub field_of : Edition → ℕ → Locator
field_of ed letter bs =
    if eqb letter 78 then field read_u64 bs else
    if eqb letter 83 then field read_u32 bs else
    if eqb letter 79 then locate_optional bs else
    if eqb letter 65 then locate_availability bs else
    locate_value ed bs

-- fields one after the other
unfoldable pub fields_of : Edition → List ℕ → Locator
fields_of ed [] bs = past bs
fields_of ed (l ∷ ls) bs = (field_of ed l ⨟ fields_of ed ls) bs

-- operation j of patch i
unfoldable pub operation_in : Edition → ℕ → ℕ → Locator
operation_in ed i j = within (in_operation i j) (locate_operation ed)

-- the envelope of patch i, and its operations behind their count
unfoldable pub patch_fields : Edition → ℕ → Locator
patch_fields ed i = locate_envelope ⨟ counted operation_count_lem patch_operations (operation_in ed i)

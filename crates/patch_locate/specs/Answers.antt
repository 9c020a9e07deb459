-- What a locator of a part answers, as definitions of the way that spec_explain goes: positions count from the part's start.
use Rattle.std.specs.Prelude.{ℕ, ◌-◌, ltb, Result, Ok, Err, length, if◌then◌else◌}
use Rattle.std.proofs.Math.Option.{Option, none, some}
use Rattle.spec_explain.specs.ReadingRule as model
use Rattle.spec_explain.specs.Locate as locating
use Rattle.patch_locate.specs.declared.rules.ReadingRule.{ReadingRule}
use Rattle.patch_locate.specs.declared.rules.ReadingRule.TheVariants as rules
use Rattle.patch_locate.specs.declared.rules.Inside.{Inside}
use Rattle.patch_locate.specs.declared.rules.Inside.TheVariants as insides
use Rattle.patch_locate.specs.declared.rules.Stop.{Stop}

-- the rules, both ways
abbrev pub rule_to : model.ReadingRule → ReadingRule
rule_to model.set_too_long = rules.SetTooLong
rule_to model.wrong_heading = rules.WrongHeading
rule_to model.too_few_bytes = rules.TooFewBytes
rule_to model.operation_tag = rules.OperationTag
rule_to model.value_kind = rules.ValueKind
rule_to model.optional_tag = rules.OptionalTag
rule_to model.availability_tag = rules.AvailabilityTag
rule_to model.quad_tag = rules.QuadTag
rule_to model.score_range = rules.ScoreRange
rule_to model.not_utf8 = rules.NotUtf8
rule_to model.patch_count = rules.PatchCount
rule_to model.operation_count_lem = rules.OperationCount
rule_to model.text_length = rules.TextLength
rule_to model.character_count = rules.CharacterCount
rule_to model.bytes_left = rules.BytesLeft

abbrev pub reading_rule_of : ReadingRule → model.ReadingRule
reading_rule_of rules.SetTooLong = model.set_too_long
reading_rule_of rules.WrongHeading = model.wrong_heading
reading_rule_of rules.TooFewBytes = model.too_few_bytes
reading_rule_of rules.OperationTag = model.operation_tag
reading_rule_of rules.ValueKind = model.value_kind
reading_rule_of rules.OptionalTag = model.optional_tag
reading_rule_of rules.AvailabilityTag = model.availability_tag
reading_rule_of rules.QuadTag = model.quad_tag
reading_rule_of rules.ScoreRange = model.score_range
reading_rule_of rules.NotUtf8 = model.not_utf8
reading_rule_of rules.PatchCount = model.patch_count
reading_rule_of rules.OperationCount = model.operation_count_lem
reading_rule_of rules.TextLength = model.text_length
reading_rule_of rules.CharacterCount = model.character_count
reading_rule_of rules.BytesLeft = model.bytes_left

-- the places, both ways
abbrev pub inside_to : model.Inside → Inside
inside_to model.outside = insides.Outside
inside_to (model.in_patch i) = insides.Patch i
inside_to (model.in_operation i j) = insides.Operation i j

abbrev pub inside_of : Inside → model.Inside
inside_of insides.Outside = model.outside
inside_of (insides.Patch i) = model.in_patch i
inside_of (insides.Operation i j) = model.in_operation i j

-- a stop that has no place yet
abbrev pub stop_outside : ReadingRule → ℕ → Stop
stop_outside rule p = record { rule = rule; inside = insides.Outside; at = p }

-- of a part of n bytes: the position behind what was passed, or the stop with the position of its field
abbrev pub stop_to : ℕ → locating.Stop → Stop
stop_to n s = record { rule = rule_to s.rule; inside = inside_to s.inside; at = n - s.left }

abbrev pub located_answer : ℕ → locating.Located → Result ℕ Stop
located_answer n (locating.past rest) = Ok (n - length rest)
located_answer n (locating.stop s) = Err (stop_to n s)

-- a stop that has no place yet is given this one
abbrev pub place_in : Inside → Inside → Inside
place_in here insides.Outside = here
place_in here (insides.Patch i) = insides.Patch i
place_in here (insides.Operation i j) = insides.Operation i j

abbrev pub placed_in : Inside → Stop → Stop
placed_in here s = record { rule = s.rule; inside = place_in here s.inside; at = s.at }

abbrev pub within_to : Inside → Result ℕ Stop → Result ℕ Stop
within_to here (Ok next) = Ok next
within_to here (Err s) = Err (placed_in here s)

-- ---- a whole set

-- bytes behind what was passed are left over
abbrev pub end_to : ℕ → Result ℕ Stop → Result (Unit {0}) Stop
end_to n (Ok p) = if ltb p n then Err (stop_outside rules.BytesLeft p) else Ok tt
end_to n (Err s) = Err s

abbrev pub unread_to : model.Unread → Stop
unread_to u = record { rule = rule_to u.rule; inside = inside_to u.inside; at = u.position }

abbrev pub located_set : Option model.Unread → Result (Unit {0}) Stop
located_set none = Ok tt
located_set (some u) = Err (unread_to u)

abbrev pub unread_of : Stop → model.Unread
unread_of s = record { rule = reading_rule_of s.rule; inside = inside_of s.inside; position = s.at }

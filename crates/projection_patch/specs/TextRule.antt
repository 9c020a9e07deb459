-- What the rule of texts says of one that is checked: RFC 3629 first, then its characters.
use Rattle.std.specs.Prelude.{ℕ, Bool, true, List, Result, Ok, Err, if◌then◌else◌}
use Rattle.spec_patch.specs.TextRule.{allowed, few_characters}
use Rattle.projection_patch.specs.declared.text_rule.TextFault.{TextFault}
use Rattle.projection_patch.specs.declared.text_rule.TextFault.TheVariants.{Malformed, ManyCharacters}

-- by the outcomes of the two tests
abbrev pub judged : (utf8 few : Bool) → Result (Unit {0}) TextFault
judged utf8 few = if utf8 then (if few then Ok tt else Err ManyCharacters) else Err Malformed

abbrev pub judgement : List ℕ → Result (Unit {0}) TextFault
judgement t = judged (allowed true t) (few_characters true t)

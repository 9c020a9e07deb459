-- The answer of the check: the number of characters of a text that is UTF-8, and none for any other.
use Rattle.std.specs.Prelude.{ℕ, List, Option, Some, None, if◌then◌else◌}
use Rattle.spec_text.specs.Syntax.{is_utf8, characters}

abbrev pub utf8_answer : List ℕ → Option ℕ
utf8_answer text = if is_utf8 text then Some (characters text) else None

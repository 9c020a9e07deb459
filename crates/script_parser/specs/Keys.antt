-- What the fields of a page stand for: how reading goes on.
use Rattle.std.specs.Prelude.{ℕ, List, take, Option, Some, None}
use Rattle.spec_replay.specs.Script.{Command, page, other}
use Rattle.script_parser.specs.declared.keys.KeyFields.{KeyFields}
use Rattle.script_parser.specs.declared.keys.PageFields.{PageFields}

-- the keys in the first places, or any other line
abbrev pub keys_then : Option KeyFields → (List ℕ → Command) → Command
keys_then (Some r) next = next (take r.count r.keys)
keys_then None next = other

abbrev pub page_then : Option PageFields → Command
page_then (Some r) = page r.collection r.room (take r.count r.keys)
page_then None = other

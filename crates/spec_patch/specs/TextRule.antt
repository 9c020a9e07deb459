-- The rule of texts: so many bytes; RFC 3629 decides on a text that is checked, and so many characters. One that was checked before may be any
-- bytes.
use Rattle.std.specs.Prelude.{ℕ, Bool, true, false, List, leb, length}
use Rattle.spec_text.specs.Syntax.{is_utf8, characters}
use Rattle.spec_patch.specs.Sizes.{text_bytes, text_characters}

-- the bytes are within their capacity
abbrev pub few_bytes : List ℕ → Bool
few_bytes t = leb (length t) text_bytes

-- RFC 3629 allows them
abbrev pub allowed : Bool → List ℕ → Bool
allowed true t = is_utf8 t
allowed false t = true

-- the characters are within their capacity
abbrev pub few_characters : Bool → List ℕ → Bool
few_characters true t = leb (characters t) text_characters
few_characters false t = true

-- Bytes parted by a separator: a script into lines, a line into fields.
use Rattle.std.specs.Prelude.{ℕ}
pub use Rattle.spec_listing.specs.Escapes.{newline}
unfoldable pub use Rattle.spec_listing.specs.Split.{prepend, split}

abbrev pub space : ℕ
space = 32

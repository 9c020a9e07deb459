-- Whether given bytes stand at the start of a list.
use Rattle.std.specs.Prelude.{ℕ, Bool, List, eqb, length, take}
use Rattle.spec_lists.specs.Lists.{equal_lists}

unfoldable pub starts_with : List ℕ → List ℕ → Bool
starts_with prefix bs = equal_lists eqb prefix (take (length prefix) bs)

-- Whether there is a finding.
use Rattle.std.specs.Prelude.{Bool, not, List}
use Rattle.spec_lists.specs.Lists.{is_empty}
use Rattle.spec_checks.specs.Finding.{Finding}

unfoldable pub is_found : List Finding → Bool
is_found fs = not (is_empty fs)

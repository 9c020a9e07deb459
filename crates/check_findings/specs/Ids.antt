-- Whether a patch's id is among those of earlier ones: 01, 'Patch checks', kind 4.
use Rattle.std.specs.Prelude.{ℕ, Bool, List, eqb}
use Rattle.spec_lists.specs.Lists.{any}

unfoldable pub id_seen : ℕ → List ℕ → Bool
id_seen id ids = any (λ n. eqb n id) ids

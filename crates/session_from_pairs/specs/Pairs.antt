-- The lent pairs in a session's array: 01, 'The form each place needs'.
use Rattle.std.specs.Prelude.{ℕ, List, length, replicate, set}
use Rattle.spec_patch.specs.Sizes.{anchors}
use Rattle.active_projection_target_catalog.specs.Catalog.{no_pair, padded_pairs}
use Rattle.active_projection_target_catalog.specs.declared.catalog.BindingPair.{BindingPair}
use Rattle.session_from_pairs.specs.declared.pairs.BindingAnchors.{BindingAnchors}

-- so many are given, and no pair is copied yet
unfoldable pub no_pairs : ℕ → BindingAnchors
no_pairs given = record { pairs = replicate anchors no_pair; given = given }

unfoldable pub with_pair : BindingAnchors → ℕ → BindingPair → BindingAnchors
with_pair a i p = record { pairs = set a.pairs i p; given = a.given }

-- the list followed by zero pairs, and its length
unfoldable pub anchors_of : List BindingPair → BindingAnchors
anchors_of ps = record { pairs = padded_pairs no_pair ps; given = length ps }

-- The fields of a line that brings in a term list, read one behind the other.
use Rattle.std.specs.Prelude.{ℕ, ◌≡◌, refl, true, false, List, eqb}
use Rattle.std.proofs.Math.Option.{Option, none, some}
use Rattle.spec_lists.specs.Lists.{equal_lists}
use Rattle.spec_decimal.specs.Decimal.{read_decimal}
use Rattle.spec_patch.specs.Sizes.{set_bytes}
use Rattle.spec_replay.specs.Script.{ascii, number_field, at_most, optional_number, import_arguments}
use Rattle.script_parser.specs.Forms.{up_to}
use Rattle.script_parser.specs.FormsLaws.{number_first}
use Rattle.script_parser.specs.Imports.{behind_room}

-- the room is tested before the other fields are read
pub import_room : (fs : List (List ℕ)) → import_arguments fs ≡ number_field (λ n gs. up_to set_bytes n (λ room. behind_room room gs)) fs
unfolding import_arguments at_most
import_room fs = number_first (at_most set_bytes) refl behind_room fs

-- ---- a surface: a dash, a number, or any other field

module _ (f : List ℕ) where
  pub no_surface : equal_lists eqb (ascii "-") f ≡ true → optional_number f ≡ some none
  unfolding optional_number
  no_surface t = rw t

  module _ (t : equal_lists eqb (ascii "-") f ≡ false) where
    pub a_surface : (n : ℕ) → read_decimal f ≡ some n → optional_number f ≡ some (some n)
    unfolding optional_number
    a_surface n e = rw (t, e)

    pub other_surface : read_decimal f ≡ none → optional_number f ≡ none
    unfolding optional_number
    other_surface e = rw (t, e)

-- The print of an entry in one pass, as code writes it: character after character, with a line break before one that has no column left.
use Rattle.std.specs.Prelude.{ℕ, suc, ◌-◌, List, [], ◌∷◌, ◌++◌, eqb, replicate, if◌then◌else◌}
use Rattle.spec_text.specs.Scalars.{encode_scalar}
use Rattle.spec_panel_print.specs.Print.{text_width, blank, line_end, blank_lead}

-- the bytes of the characters that are left, from a column of the text on
unfoldable pub flowed : (column : ℕ) → List ℕ → List ℕ
flowed column [] = replicate (text_width - column) blank ++ (line_end ∷ [])
flowed column (c ∷ cs) =
    if eqb column text_width then line_end ∷ blank_lead ++ (encode_scalar c ++ flowed 1 cs)
    else encode_scalar c ++ flowed (suc column) cs

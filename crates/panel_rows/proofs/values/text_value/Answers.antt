-- `values::text_value` meets its contract: the text over zeros.
use Prim.Native.Nat.{ℕ}
use mathlib.Core.Path.{◌≡◌, ap, ◌∙◌}
use mathlib.Core.List.{List}
use native.Mathlib.Omega.{arith}
use mir.Syntax.{w64}
use mir.Val.{to_z, of_z}
use Rattle.panel_rows.specs.Lookup.{found_with}
use Rattle.panel_rows.specs.declared.values.ValueLookup.{ValueLookup}
use Rattle.panel_rows.proofs.StoredValues.{text_fits, as_text}
use Rattle.panel_rows.proofs.values.text_value.Goals as goal

-- the value with its text and its kind set
abbrev with_text : ℕ → List ℕ → ValueLookup → ValueLookup
with_text len t f = record { found = f.found; mark = f.mark; kind = 3; quad = f.quad; signed = to_z w64 (of_z w64 f.signed); unsigned = f.unsigned; text_len = len; text = t }

pub copy-requires : goal.copy-requires
copy-requires c =
    text_fits c.args.row.now c.args.mark c.args.start c.args.len (omega arith) (omega arith) c.text_of.ensures

pub returns : goal.returns
returns c = λ inside short.
    ap (with_text c.args.len c.copy.new.target) c.found.ensures ∙ as_text c.args.row.now c.args.mark c.args.start c.args.len inside short c.text_of.ensures c.copy.ensures

-- `PrintRefusal::number` meets its contract: there is one refusal.
use mathlib.Core.Path.{◌≡◌, refl}
use Rattle.panel_print.specs.declared.PrintRefusal.{PrintRefusal}
use Rattle.panel_print.specs.declared.PrintRefusal.TheVariants.{OutputTooShort}
use Rattle.panel_print.specs.Answers.{print_number}
use Rattle.panel_print.proofs.PrintRefusal.number.Goals as goal

pub returns : goal.returns
returns c = by_refusal c.args.self
  where
    by_refusal : (f : PrintRefusal) → 14 ≡ print_number f
    by_refusal OutputTooShort = refl

-- `geysertray_lifecycle_step` meets its contract: the command is tested first.
use mathlib.Core.Path.{refl}
use native.Mathlib.Omega.{arith}
use Rattle.c_exports.specs.Calls.{same_stimulus}
use borrow.Author.Rules.{rules}
use Rattle.c_exports.proofs.session.geysertray_lifecycle_step.Goals as goal

pub returns-then-command-gt-LAST_COMMAND : goal.returns-then-command-gt-LAST_COMMAND
returns-then-command-gt-LAST_COMMAND c = record { known = λ k. absurd (omega (arith, c.if-command-gt-LAST_COMMAND.true)); unknown = λ k. (c.no_step.ensures, refl) }

pub returns : goal.returns
returns c =
    record {
      known = λ k. record { answer = c.transition-answer.result; call = same_stimulus c.stimulus_of.ensures c.transition-answer.ensures; told = c.stepped.ensures };
      unknown = λ k. absurd (omega (arith, c.if-command-gt-LAST_COMMAND.false));
    }

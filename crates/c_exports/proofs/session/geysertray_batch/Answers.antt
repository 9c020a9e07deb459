-- `geysertray_batch` meets its contract: the edition is tested, and the call below is told it.
use mathlib.Core.Path.{refl}
use native.Mathlib.Omega.{arith}
use Rattle.c_exports.specs.Calls.{same_edition}
use borrow.Author.Rules.{rules}
use Rattle.c_exports.proofs.session.geysertray_batch.Goals as goal

pub returns-then-edition-lt1 : goal.returns-then-edition-lt1
returns-then-edition-lt1 c = record { called = record { known = λ lo hi. absurd (omega (arith, c.if-edition-lt1.true)); low = λ h. (c.unanswered.ensures, (refl, (refl, (refl, (refl, refl))))); high = λ h. absurd (omega (arith, c.if-edition-lt1.true)) }; cleared = λ m l h clear. clear }

pub returns-then-edition-gt2 : goal.returns-then-edition-gt2
returns-then-edition-gt2 c = record { called = record { known = λ lo hi. absurd (omega (arith, c.if-edition-gt2.true)); low = λ h. absurd (omega (arith, c.if-edition-gt2.true)); high = λ h. (c.unanswered-then-edition-gt2.ensures, (refl, (refl, (refl, (refl, refl))))) }; cleared = λ m l h clear. clear }

pub returns : goal.returns
returns c =
    record {
      called = record {
        known = λ lo hi. record { answer = c.apply_projection_patch_batch-answer.result; call = same_edition c.edition_of-told.ensures c.apply_projection_patch_batch-answer.ensures.called; told = c.answered.ensures };
        low = λ h. absurd (omega (arith, c.if-edition-lt1.false));
        high = λ h. absurd (omega (arith, c.if-edition-gt2.false));
      };
      cleared = c.apply_projection_patch_batch-answer.ensures.cleared;
    }

-- `entered_lifecycle` meets its contract: each answer follows from the tests before it.
use Rattle.std.specs.Prelude.{ℕ, ◌≡◌, refl, Option, Some, None, Ok, Err}
use Rattle.std.specs.Option.{ok_or}
use Rattle.std.proofs.Common.{sym, ap, ◌∙◌, arith}
use Rattle.std.proofs.lemmas.Result.{err_from_is_err_and}
use Rattle.session_lifecycle.specs.declared.state.ShellLifecycle.{ShellLifecycle}
use Rattle.session_lifecycle.specs.declared.diagnostics.ShellRefusal.{ShellRefusal}
use Rattle.session_lifecycle.specs.declared.diagnostics.ShellRefusal.TheVariants.{InvalidLifecycle}
use Rattle.session_lifecycle.specs.Meaning.{candidate_of}
use Rattle.session_lifecycle.specs.MeaningLaws.{closed_step, wrong_step, over_step, entered_step}
use Rattle.session_lifecycle.proofs.lifecycle.entered_lifecycle.Goals as goal

refused_one : (o : Option ShellLifecycle) (f : ShellRefusal) → ok_or o InvalidLifecycle ≡ Err f → (o ≡ None) × (InvalidLifecycle ≡ f)
refused_one None f e = (refl, cc)
refused_one (Some l) f e = absurd (let z : ◌≡◌ {A = ℕ} 0 1 = cc in omega arith)

entered_one : (o : Option ShellLifecycle) (l : ShellLifecycle) → ok_or o InvalidLifecycle ≡ Ok l → o ≡ Some l
entered_one None l e = absurd (let z : ◌≡◌ {A = ℕ} 0 1 = cc in omega arith)
entered_one (Some k) l e = cc

pub returns-then-is_closed : goal.returns-then-is_closed
returns-then-is_closed c = sym (closed_step _ _ _ (sym c.is_closed.ensures ∙ c.if-is_closed.true))

pub returns-in_err-lifecycle : goal.returns-in_err-lifecycle
returns-in_err-lifecycle c =
    let refused = refused_one _ _ (sym c.ok_or.ensures.value ∙ c.in_err-lifecycle.was) in
    let unclosed = sym c.is_closed.ensures ∙ c.if-is_closed.false in
    let no_one = sym c.calculate_candidate_lifecycle.ensures ∙ ap candidate_of refused.0 in
    let answer = err_from_is_err_and c.from_residual.result c.from_residual.ensures.1 in
    let is : c.from_residual.result ≡ Err InvalidLifecycle = answer.1 ∙ ap Err (answer.2 ∙ sym refused.1) in
    rw is (sym (wrong_step _ _ _ unclosed no_one))

pub returns-then-limits-input : goal.returns-then-limits-input
returns-then-limits-input c =
    let unclosed = sym c.is_closed.ensures ∙ c.if-is_closed.false in
    let enters = sym c.calculate_candidate_lifecycle.ensures ∙ ap candidate_of (entered_one _ _ (sym c.ok_or.ensures.value ∙ c.in_ok-lifecycle.was)) in
    sym (over_step _ _ _ unclosed _ enters c.if-limits-input.true)

pub returns : goal.returns
returns c =
    let unclosed = sym c.is_closed.ensures ∙ c.if-is_closed.false in
    let enters = sym c.calculate_candidate_lifecycle.ensures ∙ ap candidate_of (entered_one _ _ (sym c.ok_or.ensures.value ∙ c.in_ok-lifecycle.was)) in
    sym (entered_step _ _ _ unclosed _ enters c.if-limits-input.false)

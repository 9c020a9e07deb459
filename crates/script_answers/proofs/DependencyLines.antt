-- The lines of what a set depends on, by what the call answered.
use Prim.Native.Nat.{ℕ, ◌+◌, ◌*◌, ◌≤◌}
use mathlib.Core.Path.{◌≡◌, refl, sym, ap, ap₂, ◌∙◌}
use mathlib.Core.List.{List, [], ◌∷◌}
use native.Mathlib.Omega.{arith}
use lib.ListN.{length}
use Rattle.spec_decimal.specs.Decimal.{decimal}
use Rattle.spec_dependencies.specs.Answer as model
use Rattle.spec_dependencies.specs.Answer.{pair_length, DependencyAnswer, answer_never, answer_needs, refusal_number, Answered}
use Rattle.spec_listing.specs.Listing.{fields}
use Rattle.spec_replay.specs.Answers.{verdict_lines, dependency_lines}
use Rattle.projection_patch.specs.FaultLaws.{fault_back}
use Rattle.set_dependencies.specs.DependsAnswers.{depends_refusal_of, depends_refusal_to, depends_answer_to}
use Rattle.set_dependencies.specs.declared.depends.DependenciesRefusal.{DependenciesRefusal}
use Rattle.set_dependencies.specs.declared.depends.DependenciesAnswer.{DependenciesAnswer}
use Rattle.set_dependencies.specs.declared.depends.DependenciesAnswer.TheVariants as answers
use Rattle.script_answers.specs.DependenciesTold.{DependenciesTold}

-- ---- the answer in the definitions' words

never_told : (a : DependencyAnswer) (i j : ℕ) → answers.Never i j ≡ depends_answer_to a → a ≡ answer_never i j
never_told (model.refused r) i j is = absurd (let z : ◌≡◌ {A = ℕ} 0 1 = cc in omega arith)
never_told (answer_never p o) i j is = let first : p ≡ i = cc in let second : o ≡ j = cc in ap₂ answer_never first second
never_told (answer_needs h l) i j is = absurd (let z : ◌≡◌ {A = ℕ} 0 1 = cc in omega arith)

needs_told : (a : DependencyAnswer) (h l : ℕ) → answers.Needs h l ≡ depends_answer_to a → a ≡ answer_needs h l
needs_told (model.refused r) h l is = absurd (let z : ◌≡◌ {A = ℕ} 0 1 = cc in omega arith)
needs_told (answer_never p o) h l is = absurd (let z : ◌≡◌ {A = ℕ} 0 1 = cc in omega arith)
needs_told (answer_needs m n) h l is = let first : m ≡ h = cc in let second : n ≡ l = cc in ap₂ answer_needs first second

refusal_back : (r : model.DependencyRefusal) → depends_refusal_of (depends_refusal_to r) ≡ r
refusal_back (model.unreadable f) = ap model.unreadable (fault_back f)
refusal_back model.has_findings = refl
refusal_back model.output_too_short = refl

refusal_told : (a : DependencyAnswer) (f : DependenciesRefusal) → answers.Refused f ≡ depends_answer_to a → a ≡ model.refused (depends_refusal_of f)
refusal_told (model.refused r) f is = let same : f ≡ depends_refusal_to r = cc in ap model.refused (sym (ap depends_refusal_of same ∙ refusal_back r))
refusal_told (answer_never p o) f is = absurd (let z : ◌≡◌ {A = ℕ} 0 1 = cc in omega arith)
refusal_told (answer_needs m n) f is = absurd (let z : ◌≡◌ {A = ℕ} 0 1 = cc in omega arith)

-- ---- its lines

module _ (a : Answered) (answer : DependenciesAnswer) (output : List ℕ) (h : DependenciesTold a answer output) where
  pub never_lines : (i j : ℕ) → answer ≡ answers.Never i j → verdict_lines (answer_never i j) a.output ≡ dependency_lines a
  unfolding dependency_lines
  never_lines i j is = ap (λ (x : DependencyAnswer). verdict_lines x a.output) (sym (never_told a.answer i j (sym is ∙ h.answered)))

  module _ (held lacked : ℕ) (is : answer ≡ answers.Needs held lacked) where
    needed : a.answer ≡ answer_needs held lacked
    needed = needs_told a.answer held lacked (sym is ∙ h.answered)

    pub needs_counted : pair_length * (held + lacked) ≤ length output
    needs_counted = h.counted held lacked needed

    pub needs_lines : verdict_lines (answer_needs held lacked) output ≡ dependency_lines a
    unfolding dependency_lines
    needs_lines = ap₂ verdict_lines (sym needed) h.written

  pub refusal_lines : (f : DependenciesRefusal) → answer ≡ answers.Refused f → 68 ∷ fields (decimal (refusal_number (depends_refusal_of f)) ∷ []) ≡ dependency_lines a
  unfolding dependency_lines verdict_lines
  refusal_lines f is = ap (λ (x : DependencyAnswer). verdict_lines x a.output) (sym (refusal_told a.answer f (sym is ∙ h.answered)))

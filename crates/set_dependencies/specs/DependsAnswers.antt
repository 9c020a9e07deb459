-- What the call's answer stands for.
use Rattle.spec_dependencies.specs.Answer.{DependencyRefusal, unreadable, has_findings, output_too_short, DependencyAnswer, refused, answer_never, answer_needs}
use Rattle.projection_patch.specs.ReadAnswers.{fault_to, fault_of}
use Rattle.set_dependencies.specs.declared.depends.DependenciesRefusal.{DependenciesRefusal}
use Rattle.set_dependencies.specs.declared.depends.DependenciesRefusal.TheVariants as refusal
use Rattle.set_dependencies.specs.declared.walk_set.SettlingStop.{SettlingStop}
use Rattle.set_dependencies.specs.declared.walk_set.SettlingStop.TheVariants as settling-stop
use Rattle.set_dependencies.specs.declared.depends.DependenciesAnswer.{DependenciesAnswer}
use Rattle.set_dependencies.specs.declared.depends.DependenciesAnswer.TheVariants as answer

abbrev pub depends_refusal_of : DependenciesRefusal → DependencyRefusal
depends_refusal_of (refusal.Unreadable f) = unreadable (fault_of f)
depends_refusal_of refusal.Findings = has_findings
depends_refusal_of refusal.OutputTooShort = output_too_short

abbrev pub depends_refusal_to : DependencyRefusal → DependenciesRefusal
depends_refusal_to (unreadable f) = refusal.Unreadable (fault_to f)
depends_refusal_to has_findings = refusal.Findings
depends_refusal_to output_too_short = refusal.OutputTooShort

-- where the walk stops
abbrev pub stopped_answer : SettlingStop → DependenciesAnswer
stopped_answer (settling-stop.Contradiction i j) = answer.Never i j
stopped_answer (settling-stop.Unreadable f) = answer.Refused (refusal.Unreadable f)

abbrev pub depends_answer_to : DependencyAnswer → DependenciesAnswer
depends_answer_to (refused r) = answer.Refused (depends_refusal_to r)
depends_answer_to (answer_never i j) = answer.Never i j
depends_answer_to (answer_needs held lacked) = answer.Needs held lacked

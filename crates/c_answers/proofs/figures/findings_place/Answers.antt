-- `c_answers::figures::findings_place` meets its contract, case by case.
use mathlib.Core.Path.{sym, ap, ◌∙◌}
use Rattle.check_set.specs.declared.check_set.CheckPlace.{CheckPlace}
use Rattle.session_explain.specs.Meaning.{finding_place_of}
use Rattle.c_answers.specs.Explanations.{findings_place}
use borrow.Author.Rules.{rules}
use Rattle.c_answers.proofs.figures.findings_place.Goals as goal

pub returns-in-Patch : goal.returns-in-Patch
returns-in-Patch c = c.patch_place.ensures ∙ sym (ap (λ (x : CheckPlace). findings_place (finding_place_of x)) c.in-Patch.is)

pub returns-in-Set : goal.returns-in-Set
returns-in-Set c = c.no_place.ensures ∙ sym (ap (λ (x : CheckPlace). findings_place (finding_place_of x)) c.in-Set.is)

-- What the exported call that explains a batch promises: for every session that the memory holds, the numbers tell why the batch is refused on it.
use Rattle.std.specs.Prelude.{Option}
use Rattle.std.specs.Prelude.{ℕ, ◌≡◌, true, false, List}
use Rattle.std.proofs.Common.{ap, subst, ◌∙◌}
use Rattle.spec_patch.specs.Edition.{Edition}
use Rattle.spec_session.specs.Session.{Session}
use Rattle.spec_session.specs.Batch.{BatchEnvelope}
use Rattle.spec_explain.specs.Explain.{Explanation, explain}
use Rattle.session_explain.specs.Meaning.{explanation_of}
use Rattle.session_explain.specs.MeaningLaws.{explanation_back}
use Rattle.session_lent_explain.specs.LentExplain.{HoldsSession, session_shaped, ExplainView}
use Rattle.session_explain.specs.declared.reasons.BatchExplanation.{BatchExplanation}
use Rattle.c_answers.specs.Asked.{edition_at, is_edition}
use Rattle.c_answers.specs.Explanations.{not_explained, explanation_told, lent_explanation_told}
use Rattle.c_answers.specs.declared.explanations.GeysertrayExplanation.{GeysertrayExplanation}

module _ (v : BatchEnvelope) (declared : ℕ) (set head nodes pairs collections b a e : List ℕ) where
  -- 3 for memory that cannot hold a session
  pub record ExplainedAs (ed : Edition) (r : GeysertrayExplanation) : Type 0 where
    pub refused : session_shaped head nodes pairs collections b a e ≡ false → r ≡ not_explained 3
    pub answered : session_shaped head nodes pairs collections b a e ≡ true → (x : Explanation) × (r ≡ explanation_told x)
    pub held : (m : Session) → HoldsSession head nodes pairs collections b a e m → r ≡ explanation_told (explain ed m v declared set)

  -- what the call below answers, told as numbers
  told_as : (ed : Edition) (x : Option BatchExplanation) (r : GeysertrayExplanation) → ExplainView ed v declared set head nodes pairs collections b a e x → r ≡ lent_explanation_told x → ExplainedAs ed r
  told_as ed x r view told = record {
    refused = λ no. told ∙ ap lent_explanation_told (view.refused no);
    answered = λ yes. (explanation_of (view.answered yes).0, told ∙ ap lent_explanation_told (view.answered yes).1);
    held = λ m h. told ∙ ap lent_explanation_told (view.held m h) ∙ ap explanation_told (explanation_back (explain ed m v declared set));
  }

  pub explained_as : (ed : Edition) {told-ed : Edition} → told-ed ≡ ed → (x : Option BatchExplanation) (r : GeysertrayExplanation) → ExplainView told-ed v declared set head nodes pairs collections b a e x → r ≡ lent_explanation_told x → ExplainedAs ed r
  explained_as ed {told-ed} same x r view told = subst (λ (k : Edition). ExplainedAs k r) same (told_as told-ed x r view told)

pub record ExportedExplanation (edition : ℕ) (v : BatchEnvelope) (declared : ℕ) (set head nodes pairs collections b a e : List ℕ) (r : GeysertrayExplanation) : Type 0 where
  pub known : is_edition edition ≡ true → ExplainedAs v declared set head nodes pairs collections b a e (edition_at edition) r
  pub unknown : is_edition edition ≡ false → r ≡ not_explained 4

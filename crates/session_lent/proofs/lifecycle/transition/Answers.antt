-- `transition` meets its contract: the lifecycle is written where the step is applied.
use Prim.Native.Nat.{ℕ}
use mathlib.Core.Path.{◌≡◌, refl, sym, ap, ap₂, ◌∙◌}
use mathlib.Core.List.{List, [], ◌∷◌}
use mathlib.Core.Logic.{inl, inr}
use denote.Enum.Declared.{tag_of}
use types.Run.{OneOf}
use native.Mathlib.Omega.{arith}
use lib.ListN.{set}
use Rattle.spec_session.specs.Lifecycle.{lifecycle_step}
use Rattle.session_lifecycle.specs.Meaning.{stimulus_of, lifecycle_of, bare}
use Rattle.session_lent.specs.Head.{lifecycle_number}
use Rattle.session_lifecycle.specs.contracts.lifecycle.ShellTransitionDisposition as disposition
use Rattle.session_lifecycle.specs.declared.lifecycle.ShellTransitionDisposition.{ShellTransitionDisposition}
use Rattle.session_lifecycle.specs.declared.lifecycle.ShellTransitionDisposition.TheVariants.{Applied, NoChange, Rejected}
use Rattle.session_lent.specs.Steps.{stepped_head}
use borrow.Author.Rules.{rules}
use borrow.Enum.Refused.{opened as one_of}
use Rattle.session_lent.proofs.lifecycle.transition.Goals as goal

-- a step that is not applied leaves the head
other : (h : List ℕ) (d : ShellTransitionDisposition) (n : ℕ) → OneOf (1 ∷ 2 ∷ []) (tag_of disposition.the_type d) → h ≡ stepped_head h d n
other h Applied n (inl e) = absurd (omega arith)
other h Applied n (inr e) = absurd (omega arith)
other h NoChange n k = refl
other h Rejected n k = refl

pub returns-then-head-ne-NUMBERS : goal.returns-then-head-ne-NUMBERS
returns-then-head-ne-NUMBERS c = record { answered = λ long. absurd (c.if-head-ne-NUMBERS.true long); refused = λ no. (refl, refl) }

pub returns-in-Applied : goal.returns-in-Applied
returns-in-Applied c =
    record {
      answered = λ long. record {
        result = c.evaluate_lifecycle_transition-result.result;
        told = refl;
        answer = c.evaluate_lifecycle_transition-result.ensures ∙ ap₂ (λ l t. (lifecycle_step (bare l t) (stimulus_of c.args.input.stimulus) c.args.input.stimulus_bytes).answer) c.limits_in-limits.ensures c.state_in-state.ensures;
        left = ap (λ k. set c.args.head.now 1 k) c.lifecycle_number.ensures ∙ sym (ap (λ d. stepped_head c.args.head.now d (lifecycle_number (lifecycle_of c.evaluate_lifecycle_transition-result.result.state.lifecycle))) c.in-Applied.is);
      };
      refused = λ no. absurd (no c.if-head-ne-NUMBERS.false);
    }

pub returns-in_default : goal.returns-in_default
returns-in_default c =
    record {
      answered = λ long. record {
        result = c.evaluate_lifecycle_transition-result.result;
        told = refl;
        answer = c.evaluate_lifecycle_transition-result.ensures ∙ ap₂ (λ l t. (lifecycle_step (bare l t) (stimulus_of c.args.input.stimulus) c.args.input.stimulus_bytes).answer) c.limits_in-limits.ensures c.state_in-state.ensures;
        left = other c.args.head.now c.evaluate_lifecycle_transition-result.result.disposition _ (one_of c.in_default.in_default-own.keys2);
      };
      refused = λ no. absurd (no c.if-head-ne-NUMBERS.false);
    }

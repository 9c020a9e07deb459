-- What explain prints: W, the number, the rule's name and its figures. W and 0 where there is no reason; behind it the word withheld where there is
-- one that the limit of diagnostics hides.
use Rattle.std.specs.Prelude.{ℕ, List, [], ◌∷◌}
use Rattle.std.proofs.Math.Option.{Option, none, some}
use Rattle.spec_decimal.specs.Decimal.{decimal}
use Rattle.spec_listing.specs.Listing.{fields}
use Rattle.spec_explain.specs.ReadingRule.{Inside, outside, in_patch, in_operation}
use Rattle.spec_explain.specs.Reason.{Reason, foreign_session, session_closed, declared_limits, unreadable, has_findings, counts_differ, references_over, unknown_target, cursor_mismatch, operation_fails, reason_number, reason_word}
use Rattle.spec_explain.specs.Explain.{Explanation, no_reason, withheld, given}
use Rattle.spec_replay.specs.Script.{ascii}
use Rattle.spec_replay.specs.Answers.{dash, place_field}

-- patch and operation, each - where reading stopped in none
unfoldable pub inside_fields : Inside → List (List ℕ)
inside_fields outside = dash ∷ dash ∷ []
inside_fields (in_patch i) = decimal i ∷ dash ∷ []
inside_fields (in_operation i j) = decimal i ∷ decimal j ∷ []

-- the number that a cursor takes, or -
unfoldable pub takes_field : Option ℕ → List ℕ
takes_field none = dash
takes_field (some n) = decimal n

-- the figures of a rule, in the order of its reason
unfoldable pub figure_fields : Reason → List (List ℕ)
figure_fields (foreign_session named own) = decimal named ∷ decimal own ∷ []
figure_fields session_closed = []
figure_fields (declared_limits w a b c d) = decimal a ∷ decimal b ∷ decimal c ∷ decimal d ∷ []
figure_fields (unreadable u) = decimal u.position ∷ inside_fields u.inside
figure_fields (has_findings place n f) = place_field place ∷ decimal n ∷ decimal f.kind ∷ decimal f.domain ∷ decimal f.secondary ∷ []
figure_fields (counts_differ a b c d) = decimal a ∷ decimal b ∷ decimal c ∷ decimal d ∷ []
figure_fields (references_over a b) = decimal a ∷ decimal b ∷ []
figure_fields (unknown_target n i j) = decimal n ∷ decimal i ∷ decimal j ∷ []
figure_fields (cursor_mismatch t) = takes_field t ∷ []
figure_fields (operation_fails i j r) = decimal i ∷ decimal j ∷ []

-- explain
unfoldable pub reason_line : Explanation → List ℕ
reason_line no_reason = 87 ∷ fields (decimal 0 ∷ [])
reason_line withheld = 87 ∷ fields (decimal 0 ∷ ascii "withheld" ∷ [])
reason_line (given r) = 87 ∷ fields (decimal (reason_number r) ∷ reason_word r ∷ figure_fields r)

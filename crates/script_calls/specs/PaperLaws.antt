-- A room over the longest print is as good as the longest.
use Rattle.std.specs.Prelude.{ℕ, ◌≤◌, min, ◌≡◌, List, leb, length}
use Rattle.std.proofs.Common.{ap, ◌∙◌, arith, leb-true, leb-false, le-leb}
use Rattle.std.proofs.lemmas.Bool.{lt-leb}
use Rattle.spec_lists.proofs.ListLaws.{test_cases}
use Rattle.spec_panel_print.specs.PrintSizes.{print_bytes}
use Rattle.spec_replay.specs.Answers.{print_lines}

pub longest_suffices : (room n : ℕ) (print : List ℕ) → n ≡ min room print_bytes → length print ≤ print_bytes → print_lines n print ≡ print_lines room print
unfolding print_lines
longest_suffices room n print same short =
    test_cases (leb (length print) room)
    (λ t. rw (t, le-leb (length print) n (omega (arith, leb-true (length print) room t))))
    (λ t. rw (t, lt-leb (length print) n (omega (arith, leb-false (length print) room t))))

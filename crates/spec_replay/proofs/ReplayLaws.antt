-- A script is replayed line by line: what is printed depends on the line, its number and the state alone.
use Rattle.std.specs.Prelude.{ℕ, ◌+◌, ◌≡◌, true, eqb}
use Rattle.std.proofs.Math.Path.{refl}
use mathlib.Core.List.{List, [], ◌∷◌, ◌++◌}
use Rattle.spec_lists.proofs.ListLaws.{test_cases}
use Rattle.spec_listing.specs.Split.{lacks}
use Rattle.spec_listing.proofs.SplitLaws.{split_whole, split_part}
use Rattle.spec_replay.specs.Lines.{newline, prepend, split}
use Rattle.spec_replay.specs.Script.{command}
use Rattle.spec_replay.specs.Answers.{other_line}
use Rattle.spec_replay.specs.Replay.{State, replay_line, then_replay, replay_lines, commands_of, replay_from}

-- ---- splitting

module _ (separator : ℕ) where
  -- there is always a part
  pub record Parts (l : List ℕ) : Type 0 where
    pub first : List ℕ
    pub others : List (List ℕ)
    pub are : split separator l ≡ first ∷ others

  pub parts : (l : List ℕ) → Parts l
  unfolding split prepend
  parts [] = record { first = []; others = []; are = refl }
  parts (b ∷ l) =
      test_cases (eqb b separator)
      (λ t. record { first = []; others = split separator l; are = rw t })
      (λ t. let p = parts l in record { first = b ∷ p.first; others = p.others; are = rw (t, p.are) })

-- ---- the replay

module _ (n : ℕ) (s : State) where
  -- a line and its LF
  pub replay_line_lem : (line rest : List ℕ) → lacks newline line ≡ true
      → replay_from n s (line ++ newline ∷ rest) ≡ then_replay (replay_line n s (command line)) (λ t. replay_from (n + 1) t rest)
  unfolding replay_from replay_lines commands_of
  replay_line_lem line rest h = let p = parts newline rest in rw (split_part newline line rest h, p.are)

  -- nothing behind the last LF
  pub replay_nothing : replay_from n s [] ≡ []
  unfolding replay_from replay_lines commands_of split
  replay_nothing = refl

  -- bytes behind the last LF
  pub replay_unended : (b : ℕ) (rest : List ℕ) → lacks newline (b ∷ rest) ≡ true → replay_from n s (b ∷ rest) ≡ other_line n
  unfolding replay_from replay_lines replay_line commands_of
  replay_unended b rest h = rw (split_whole newline (b ∷ rest) h)

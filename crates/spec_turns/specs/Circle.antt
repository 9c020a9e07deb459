-- Whose turn it is, said without a search: how far ahead a sender is, and who is nearest.
use Rattle.std.specs.Prelude.{ℕ, ◌+◌, ◌-◌, ◌≤◌, ◌≡◌, Bool, true, false, List, leb, length, get_or, if◌then◌else◌}
use Rattle.spec_turns.specs.Turns.{Turns, senders, first_asked}

-- in a circle of n one sender stands so many places ahead of another
unfoldable pub ahead : ℕ → ℕ → ℕ → ℕ
ahead n from s = if leb from s then s - from else (n + s) - from

-- the sender waits, and nobody who waits is nearer
pub record Nearest (w : List Bool) (from : ℕ) (x : ℕ) : Type 0 where
  pub waiting : get_or w x false ≡ true
  pub nearest : (s : ℕ) → get_or w s false ≡ true → ahead (length w) from x ≤ ahead (length w) from s

-- so many senders are asked before this one
unfoldable pub away : Turns → ℕ → ℕ
away t s = ahead (senders t) (first_asked (senders t) t.last) s

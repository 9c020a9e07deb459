-- `with_tables` meets its contract: each call puts its table in place.
use borrow.Author.Rules.{rules}
use mathlib.Core.Path.{◌≡◌, refl}
use mathlib.Core.List.{List}
use Prim.Native.Nat.{ℕ}
use Rattle.local_projection_state.specs.declared.ProjectionCounts.{ProjectionCounts}
use Rattle.session_lifecycle.specs.declared.state.ShellLocalState.{ShellLocalState}
use Rattle.session_steps.specs.declared.checks.ActivatedShellSessionContext.{ActivatedShellSessionContext}
use Rattle.shell_player.specs.Batches.{session_of}
use Rattle.shell_player.proofs.tables.with_tables.Goals as goal

-- equal tables make equal sessions
same_tables : (c : ActivatedShellSessionContext) (t : ShellLocalState) (n : ProjectionCounts) {b b' a a' e e' l l' : List ℕ} → b ≡ b' → a ≡ a' → e ≡ e' → l ≡ l' → session_of c t n b a e l ≡ session_of c t n b' a' e' l'
same_tables c t n p q r s = rw (p, q, r, s) refl

pub returns : goal.returns
returns c = same_tables _ _ _ c.put_bindings.ensures c.put_availability.ensures c.put_entries.ensures c.put_lengths.ensures

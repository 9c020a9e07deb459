use Prim.Native.Nat.{ℕ, suc, ◌+◌, ◌-◌, ◌*◌, ◌≤◌, ◌<◌}
use mathlib.Core.Path.{◌≡◌, refl, sym, ap, ap₂, ◌∙◌, subst}
use mathlib.Core.List.{List, ◌∷◌, map}
use native.Mathlib.Omega.{arith}
use borrow.Author.Rules.{rules}
use lib.ListN.{length, drop, get_or, drop_of_length-le}
use lib.Seq.{drop-cons}
use Rattle.spec_dependencies.specs.Settled.{Settled}
use Rattle.spec_dependencies.specs.Dependencies.{keys_at_start}
use Rattle.spec_dependencies.specs.Answer.{pair_length, all_words, words_written}
use Rattle.set_dependencies.specs.SettledRows.{settled_row, settled_of, SettledTable}
use Rattle.set_dependencies.specs.SettledRowsLaws.{no_key, row_of, row_fits}
use Rattle.set_dependencies.specs.SettlingLaws.{table_length}
use Rattle.set_dependencies.specs.WrittenKeys.{KeysLeft}
use Rattle.set_dependencies.specs.WrittenKeysLaws.{keys_left_start, keys_left_none}
use Rattle.set_dependencies.proofs.write_keys.write_keys.Given as goal

abbrev pub invariant-loop-i : goal.invariant-loop-i
invariant-loop-i l =
    (length l.out ≡ length l.initial.out) × (l.i ≤ l.count) × (pair_length * l.written ≤ length l.out)
    × ((t : List Settled) → SettledTable l.count l.table t → pair_length * length (keys_at_start l.at_start t) ≤ length l.initial.out
    → KeysLeft l.at_start (drop l.i t) l.written l.out (length (keys_at_start l.at_start t)) (words_written (all_words (keys_at_start l.at_start t)) l.initial.out))

abbrev pub decreases-loop-i : goal.decreases-loop-i
decreases-loop-i l = l.count - l.i

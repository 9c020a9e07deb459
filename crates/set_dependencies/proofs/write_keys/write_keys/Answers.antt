-- `write_keys` meets its contract: what is written and what is left are the whole list.
use Prim.Native.Nat.{ℕ, suc, ◌+◌, ◌-◌, ◌*◌, ◌≤◌, ◌<◌}
use mathlib.Core.Path.{◌≡◌, refl, sym, ap, ap₂, ◌∙◌, subst}
use mathlib.Core.List.{List, ◌∷◌, map}
use native.Mathlib.Omega.{arith}
use borrow.Author.Rules.{rules}
use lib.ListN.{length, drop, get_or, drop_of_length-le}
use lib.Seq.{drop-cons}
use Rattle.spec_dependencies.specs.Settled.{Settled}
use Rattle.spec_dependencies.specs.Dependencies.{keys_at_start}
use Rattle.spec_dependencies.specs.Answer.{pair_length, all_words, words_written}
use Rattle.set_dependencies.specs.SettledRows.{settled_row, settled_of, SettledTable}
use Rattle.set_dependencies.specs.SettledRowsLaws.{no_key, row_of, row_fits}
use Rattle.set_dependencies.specs.SettlingLaws.{table_length}
use Rattle.set_dependencies.specs.WrittenKeys.{KeysLeft}
use Rattle.set_dependencies.specs.WrittenKeysLaws.{keys_left_start, keys_left_none}
use Rattle.set_dependencies.proofs.write_keys.write_keys.Goals as goal
use Rattle.set_dependencies.proofs.write_keys.write_keys.Goals.{After-loop-i, After-settled_key}

-- the row that was read is the first that is left
first : (k : After-settled_key) (t : List Settled) → SettledTable k.args.count k.args.table.now t
    → drop k.loop-i.i t ≡ settled_of k.settled_key.result ∷ drop (k.loop-i.i + 1) t
first k t s =
    let within : k.loop-i.i < length t = omega (arith, table_length t s, k.loop-i-test.true) in
    let next : suc k.loop-i.i ≡ k.loop-i.i + 1 = omega arith in
    drop-cons t k.loop-i.i no_key within
    ∙ ap₂ (λ (x : Settled) (n : ℕ). x ∷ drop n t) (sym (k.settled_key.ensures (get_or t k.loop-i.i no_key) (row_fits t k.loop-i.i s.fit within) (k.record_at-row.ensures.row (map settled_row t) s.rows ∙ row_of t k.loop-i.i within))) next

-- behind the last row nothing is left
ended : (c : After-loop-i) (t : List Settled) → SettledTable c.args.count c.args.table.now t
    → pair_length * length (keys_at_start c.args.at_start t) ≤ length c.args.out.now
    → (c.loop-i.written ≡ length (keys_at_start c.args.at_start t)) × (c.loop-i.out ≡ words_written (all_words (keys_at_start c.args.at_start t)) c.args.out.now)
ended c t s few =
    let past : length t ≤ c.loop-i.i = omega (arith, table_length t s, c.loop-i-test.false) in
    let whole = words_written (all_words (keys_at_start c.args.at_start t)) c.args.out.now in
    keys_left_none c.args.at_start c.loop-i.written c.loop-i.out (length (keys_at_start c.args.at_start t)) whole
    (subst (λ (left : List Settled). KeysLeft c.args.at_start left c.loop-i.written c.loop-i.out (length (keys_at_start c.args.at_start t)) whole) (drop_of_length-le t past) (c.loop-i.invariant.3 t s few))

pub loop-i-init : goal.loop-i-init
loop-i-init c = (refl, search rules, omega arith, λ t s few. keys_left_start _ t _)

pub loop-i-preserved : goal.loop-i-preserved
loop-i-preserved c = (
  search rules,
  search rules,
  search rules,
  λ t s few. c.write_key-written.ensures.left (drop (c.loop-i.i + 1) t) _ _ (omega (arith, few, c.loop-i.invariant.0))
      (subst (λ (left : List Settled). KeysLeft c.args.at_start left c.loop-i.written c.loop-i.out (length (keys_at_start c.args.at_start t)) (words_written (all_words (keys_at_start c.args.at_start t)) c.args.out.now)) (first (goal.at.loop-i-preserved c).After-settled_key t s) (c.loop-i.invariant.3 t s few)),
)

pub returns : goal.returns
returns c = record { all = λ t s few. ended c t s few; within = omega (arith, c.loop-i.invariant.0, c.loop-i.invariant.2) }

-- `index::index_keys` meets its contract. The invariant: the first i keys are indexed.
use Prim.Native.Nat.{ℕ, ◌+◌, ◌-◌, ◌≤◌}
use mathlib.Core.Path.{◌≡◌, refl, sym, subst}
use native.Mathlib.Omega.{arith}
use borrow.Author.Rules.{rules}
use lib.ListN.{length, get_or, set}
use Rattle.panel_page.specs.Index.{Indexed}
use Rattle.panel_page.proofs.IndexLaws.{index_start, index_turn}
use Rattle.panel_page.proofs.index.index_keys.Goals as goal

pub loop-i-init : goal.loop-i-init
loop-i-init c =
    (search rules, (c.requires.1, (refl, (refl, index_start c.args.keys.now c.args.heads.now c.args.earlier.now c.requires.0))))

pub bounds-heads-place : goal.bounds-heads-place
bounds-heads-place c = omega (arith, c.key_place-place.ensures, c.loop-i.invariant.1.1.1.1.places)

pub bounds-heads-place-in-loop-i : goal.bounds-heads-place-in-loop-i
bounds-heads-place-in-loop-i c = omega (arith, c.key_place-place.ensures, c.loop-i.invariant.1.1.1.1.places)

pub loop-i-preserved : goal.loop-i-preserved
loop-i-preserved c = (
  search rules,
  (
    search rules,
    (
      search rules,
      (
        search rules,
        subst (λ (b : ℕ). Indexed (c.loop-i.i + 1) c.args.keys.now (set c.loop-i.heads b (c.loop-i.i + 1)) (set c.loop-i.earlier c.loop-i.i (get_or c.loop-i.heads b 0))) (sym c.key_place-place.ensures)
            (index_turn c.args.keys.now c.loop-i.heads c.loop-i.earlier c.loop-i.i (omega arith) c.loop-i.invariant.1.1.1.1),
      ),
    ),
  ),
)

pub returns : goal.returns
returns c =
    let all : c.loop-i.i ≡ length c.args.keys.now = omega arith in
    subst (λ (n : ℕ). Indexed n c.args.keys.now c.loop-i.heads c.loop-i.earlier) all c.loop-i.invariant.1.1.1.1

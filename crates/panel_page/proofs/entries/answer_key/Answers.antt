-- `entries::answer_key` meets its contract. The invariant: the rows from key `next` on are written. The measure falls with each link of the chain.
use Prim.Native.Nat.{ℕ, ◌+◌, ◌-◌}
use mathlib.Core.Path.{◌≡◌, refl, sym, ap, ◌∙◌, subst}
use mathlib.Core.List.{List, map}
use native.Mathlib.Omega.{arith}
use borrow.Author.Rules.{rules}
use lib.ListN.{length}
use Rattle.panel_rows.specs.Rows.{filled_row}
use Rattle.panel_page.specs.PageTable.{page_width}
use Rattle.panel_page.specs.Index.{index_place_of, OnChain}
use Rattle.panel_page.proofs.IndexLaws.{last_le, on_chain, chain_start, chain_next}
use Rattle.panel_page.specs.Answering.{answering, mixed}
use Rattle.panel_page.proofs.AnsweringLaws.{mixed_start, mixed_end, chain_passed}
use Rattle.panel_page.specs.Shown.{Shows}
use Rattle.panel_page.proofs.entries.answer_key.Goals as goal

pub loop-next-init : goal.loop-next-init
loop-next-init c =
    let row = filled_row page_width c.args.head.now c.args.rest.now in
    let is = chain_start c.requires.0 c.args.key _ c.key_place.ensures in (
      subst (OnChain c.args.keys.now c.args.key) (sym is) (on_chain c.args.keys.now c.args.key (length c.args.keys.now) (omega arith)),
      (
        refl,
        λ f t. subst (Shows (length c.args.keys.now) c.args.answers.now)
            (sym (mixed_start f (answering c.args.key row f) c.args.keys.now) ∙ chain_passed c.args.keys.now c.args.key row f (length c.args.keys.now) (omega arith) ∙ ap (mixed f (answering c.args.key row f) c.args.keys.now) (sym is)) t,
      ),
    )

pub loop-next-smaller : goal.loop-next-smaller
loop-next-smaller c =
    omega (arith, chain_next c.requires.0 c.args.key c.loop-next.next c.loop-next.invariant.0 (omega arith), last_le (index_place_of c.args.key) c.args.keys.now (c.loop-next.next - 1))

pub loop-next-preserved : goal.loop-next-preserved
loop-next-preserved c =
    let row = filled_row page_width c.args.head.now c.args.rest.now in
    let is = chain_next c.requires.0 c.args.key c.loop-next.next c.loop-next.invariant.0 (omega arith) in
    let one : c.loop-next.next ≡ c.loop-next.next - 1 + 1 = omega arith in (
      subst (OnChain c.args.keys.now c.args.key) (sym is) (on_chain c.args.keys.now c.args.key (c.loop-next.next - 1) (omega arith)),
      (
        search rules,
        λ f t. subst (Shows (length c.args.keys.now) _) (chain_passed c.args.keys.now c.args.key row f (c.loop-next.next - 1) (omega arith) ∙ ap (mixed f (answering c.args.key row f) c.args.keys.now) (sym is))
            (c.answer_place.ensures f (subst (Shows (length c.args.keys.now) c.loop-next.answers) (ap (mixed f (answering c.args.key row f) c.args.keys.now) one) (c.loop-next.invariant.1.1 f t))),
      ),
    )

pub returns : goal.returns
returns c =
    let row = filled_row page_width c.args.head.now c.args.rest.now in
    let all : c.loop-next.next ≡ 0 = omega arith in
    λ f t. subst (Shows (length c.args.keys.now) c.loop-next.answers) (ap (mixed f (answering c.args.key row f) c.args.keys.now) all ∙ mixed_end f (answering c.args.key row f) c.args.keys.now) (c.loop-next.invariant.1.1 f t)

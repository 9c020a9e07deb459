-- `settle_beside` meets its contract: the key, then a named neighbour.
use Rattle.set_dependencies.specs.declared.settled_rows.SettledPlaces.{SettledPlaces}
use Rattle.std.specs.Prelude as code
use Rattle.projection_patch.specs.declared.contract_primitives.CollectionKey.{CollectionKey}
use Prim.Native.Nat.{ℕ, ◌<◌}
use mathlib.Core.Path.{◌≡◌, sym, subst}
use mathlib.Core.List.{List, [], ◌∷◌}
use native.Mathlib.Omega.{arith}
use borrow.Author.Rules.{rules}
use Rattle.spec_dependencies.specs.Expectations.{Expectation, neighbour}
use Rattle.spec_dependencies.specs.Settled.{Settled, judge, judge_all}
use Rattle.projection_patch.specs.Meaning.{before_of}
use Rattle.set_dependencies.specs.SettledRows.{row_capacity, SettledIn}
use Rattle.set_dependencies.specs.Settling.{expectation_of, SettlesTo, Judges}
use Rattle.set_dependencies.specs.SettlingLaws.{judged_count, judged_on, judged_none, judged_one}
use Rattle.set_dependencies.specs.declared.settling.KeyUse.TheVariants as key-use
use Rattle.set_dependencies.proofs.settling.settle_beside.Goals as goal
use Rattle.set_dependencies.proofs.settling.settle_beside.Goals.{After-settle}

abbrev own : After-settle → Expectation
own k = expectation_of k.args.collection.0 k.args.key.0 k.args.key_use

-- what the first call did with the key
first : (k : After-settle) (r : code.Option SettledPlaces) → k.settle.result ≡ r → (t : List Settled) → SettledIn k.args.places k.args.table.now t
    → k.args.places.count < row_capacity → SettlesTo (judge (own k) t) r k.settle.new.table
first k r is t s room =
    subst (λ x. SettlesTo (judge (own k) t) x k.settle.new.table) is (subst (λ (e : Expectation). SettlesTo (judge e t) k.settle.result k.settle.new.table)
    (λ i. expectation_of (k.raw-node.ensures i) (k.raw.ensures i) k.args.key_use) (k.settle.ensures t s room))

-- the contract, by what the neighbour is
beside : (k : After-settle) {b : code.Option CollectionKey} → k.before.before.before.before.before.args.before ≡ b → (r : code.Option SettledPlaces) (exit : List ℕ)
    → Judges k.before.before.before.before.before.args.places k.before.before.before.before.before.args.table.now exit r (own k ∷ neighbour k.before.before.before.before.before.args.collection.0 (before_of b))
    → Judges k.before.before.before.before.before.args.places k.before.before.before.before.before.args.table.now exit r (own k ∷ neighbour k.before.before.before.before.before.args.collection.0 (before_of k.before.before.before.before.before.args.before))
beside k is r exit = subst (λ b. Judges k.before.before.before.before.before.args.places k.before.before.before.before.before.args.table.now exit r (own k ∷ neighbour k.before.before.before.before.before.args.collection.0 (before_of b))) (sym is)

pub returns-in-None : goal.returns-in-None
unfolding neighbour judge_all
returns-in-None c =
    beside (goal.at.returns-in-None c).After-settle c.in-None.is _ _ (λ t s room. judged_on (own (goal.at.returns-in-None c).After-settle) [] t (first (goal.at.returns-in-None c).After-settle _ c.in_ok-more.was t s (omega (arith, room))) _ _ (λ u h. h))

pub returns-in-Some : goal.returns-in-Some
unfolding neighbour
returns-in-Some c =
    beside (goal.at.returns-in-Some c).After-settle c.in-Some.is _ _ (λ t s room.
    let settled = first (goal.at.returns-in-Some c).After-settle _ c.in_ok-more.was t s (omega (arith, room)) in
    judged_on (own (goal.at.returns-in-Some c).After-settle) _ t settled _ _ (λ u h.
    judged_one _ u _ _
    (subst (λ (e : Expectation). SettlesTo (judge e u) c.settle-in-Some.result c.settle-in-Some.new.table) (λ i. expectation_of (c.raw-node.ensures i) (c.raw-in-Some.ensures i) key-use.Kept)
    (c.settle-in-Some.ensures u h (omega (arith, room, judged_count (own (goal.at.returns-in-Some c).After-settle) _ t s _ settled))))))

pub returns-in_err-more : goal.returns-in_err-more
returns-in_err-more c =
    let none : c.from_residual.result ≡ code.None = search rules in
    λ t s room. rw none (judged_none (own (goal.at.returns-in_err-more c).After-settle) _ t _ (first (goal.at.returns-in_err-more c).After-settle _ c.in_err-more.was t s (omega (arith, room))) _)

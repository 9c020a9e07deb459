-- `settle_again` meets its contract: the key's row is as expected now and is replaced, or it contradicts.
use mathlib.Core.Path.{◌≡◌, sym, ap, ◌∙◌}
use mathlib.Core.Bool.{Bool, beq}
use mathlib.Core.List.{List, [], ◌∷◌, map}
use borrow.Author.Rules.{rules}
use lib.ListN.{get_or}
use Rattle.spec_patch.specs.Fits.{U64}
use Rattle.spec_dependencies.specs.Expectations.{Expectation}
use Rattle.spec_dependencies.specs.Settled.{Settled, settled_key, settled_by}
use Rattle.bytes_records.specs.Search.{place_of}
use Rattle.set_dependencies.specs.SettledRows.{settled_row, settled_of, SettledTable}
use Rattle.set_dependencies.specs.SettledRowsLaws.{no_key, row_of, row_fits, not_true, not_false}
use Rattle.set_dependencies.specs.Settling.{expected_of, expectation_of}
use Rattle.set_dependencies.specs.SettlingLaws.{old_within, contradicts_old, settles_again}
use Rattle.set_dependencies.proofs.settling.settle_again.Goals as goal
use Rattle.set_dependencies.proofs.settling.settle_again.Goals.{After-settled_key-old}
use Rattle.std.specs.Prelude.{Ok}

module _ (k : After-settled_key-old) where
  abbrev e : Expectation
  e = expectation_of k.args.collection k.args.key k.args.key_use

  fits : U64 k.args.collection × U64 k.args.key
  fits = (k.ranges.collection.fits, k.ranges.key.fits)

  module _ (t : List Settled) (s : SettledTable k.args.count k.args.rows.now t) (is : place_of settled_key (k.args.collection ∷ k.args.key ∷ []) t ≡ Ok k.args.at) where
    -- what was read is the key's row
    old_is : settled_of k.settled_key-old.result ≡ get_or t k.args.at no_key
    old_is =
        let within = old_within e fits t s.fit s.ascending k.args.at is in
        k.settled_key-old.ensures (get_or t k.args.at no_key) (row_fits t k.args.at s.fit within) (k.record_at-row.ensures.row (map settled_row t) s.rows ∙ row_of t k.args.at within)

    tested : (b : Bool) → b ≡ expected_of k.args.key_use → beq k.settled_key-old.result.present b ≡ beq (get_or t k.args.at no_key).now e.expected
    tested b is = λ i. beq (old_is i).now (is i)

pub returns-then-old-expected : goal.returns-then-old-expected
returns-then-old-expected c = λ t s is.
    contradicts_old (e (goal.at.returns-then-old-expected c).After-settled_key-old) (fits (goal.at.returns-then-old-expected c).After-settled_key-old) t s.fit s.ascending c.args.at is (sym (tested (goal.at.returns-then-old-expected c).After-settled_key-old t s is _ c.expected.ensures) ∙ not_true _ c.if-old-expected.true) _ _

pub returns : goal.returns
unfolding settled_by
returns c = λ t s is.
    settles_again (e (goal.at.returns c).After-settled_key-old) (fits (goal.at.returns c).After-settled_key-old) t s.fit s.ascending c.args.at is (sym (tested (goal.at.returns c).After-settled_key-old t s is _ c.expected.ensures) ∙ not_false _ c.if-old-expected.false) s _ _
    (c.settled_row-new.ensures ∙ ap settled_row (λ i. record { collection = c.args.collection; key = c.args.key; at_start = (old_is (goal.at.returns c).After-settled_key-old t s is i).at_start; now = c.left.ensures i }))
    c.replace_record.ensures

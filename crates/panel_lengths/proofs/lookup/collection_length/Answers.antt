-- `collection_length` meets its contract: the rows that were passed are others', and a length of 0 ends them.
use Prim.Native.Nat.{◌-◌, ◌≤◌}
use mathlib.Core.Path.{◌≡◌, refl, sym, ◌∙◌}
use mathlib.Core.List.{List}
use native.Mathlib.Omega.{arith}
use borrow.Author.Rules.{rules}
use lib.ListN.{drop}
use Rattle.spec_lists.specs.Lists.{All}
use Rattle.spec_patch.specs.Sizes.{projection_entries}
use Rattle.spec_projection.specs.Projection.{Projection}
use Rattle.spec_projection.specs.Valid.{Valid}
use Rattle.spec_lengths.specs.Lengths.{CollectionLength, collection_lengths, length_of, FitsLength}
use Rattle.spec_lengths.proofs.LengthsLaws.{length_kept, lengths_fit}
use Rattle.local_projection_state.specs.Stores.{StoredLengths}
use Rattle.panel_lengths.specs.LengthRowsLaws.{few_rows, lengths_past, lengths_ended, own_row, other_row}
use Rattle.panel_lengths.proofs.lookup.collection_length.Goals as goal

-- a valid projection's lengths fit their rows
fit : (p : Projection) → Valid p → All FitsLength (collection_lengths p)
unfolding collection_lengths
fit p v = lengths_fit p.entries v.fit_entries v.few_entries

pub loop-i-init : goal.loop-i-init
loop-i-init c = λ l s f. refl

pub returns-then-length-eq0 : goal.returns-then-length-eq0
returns-then-length-eq0 c =
    λ p s v. sym (lengths_ended c.args.table.now (collection_lengths p) s (fit p v) c.args.collection c.loop-i.i (c.loop-i.invariant _ s (fit p v)) (search rules) (sym c.row_length-length.ensures ∙ search rules)) ∙ length_kept p c.args.collection

pub returns-then-row_collection-collection : goal.returns-then-row_collection-collection
returns-then-row_collection-collection c =
    λ p s v.
    c.row_length-length.ensures
    ∙ sym (own_row c.args.table.now (collection_lengths p) s (fit p v) c.args.collection c.loop-i.i (c.loop-i.invariant _ s (fit p v)) (search rules) (λ e. c.if-length-eq0.false (c.row_length-length.ensures ∙ e)) (sym c.row_collection.ensures ∙ search rules))
    ∙ length_kept p c.args.collection

pub loop-i-preserved : goal.loop-i-preserved
loop-i-preserved c = (
    λ l s f. other_row c.args.table.now l s f c.args.collection c.loop-i.i (c.loop-i.invariant l s f) (search rules) (λ e. c.if-length-eq0.false (c.row_length-length.ensures ∙ e)) (λ e. c.if-row_collection-collection.false (c.row_collection.ensures ∙ e))
    )

pub returns : goal.returns
returns c =
    λ p s v. sym (lengths_past c.args.table.now (collection_lengths p) s (fit p v) c.args.collection c.loop-i.i (c.loop-i.invariant _ s (fit p v)) (omega (arith, few_rows c.args.table.now (collection_lengths p) s (fit p v)))) ∙ length_kept p c.args.collection

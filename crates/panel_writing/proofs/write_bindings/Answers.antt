-- `write_bindings` meets its contract: the table that is written stores what the plan resolves to.
use mathlib.Core.Path.{sym, ◌∙◌, subst}
use borrow.Author.Rules.{rules}
use Rattle.spec_patch.specs.Sizes.{projection_bindings}
use Rattle.projection_patch.specs.Meaning.{edition_of}
use Rattle.panel_rows.specs.Rows.{binding_value_at, binding_width, binding_row}
use Rattle.local_projection_state.specs.Stores.{Stored}
use Rattle.panel_plan.specs.Resolved.{resolved}
use Rattle.panel_writing.specs.WritingLaws.{right_size, table_written}
use Rattle.panel_writing.specs.StoredLaws.{sources, bindings_stored}
use Rattle.panel_writing.proofs.write_bindings.Goals as goal

pub returns : goal.returns
returns c =
    let ed = edition_of c.args.edition in
    record {
      told = c.write_table.ensures.value;
      made = c.write_table.ensures.to_after;
      stores = (λ yes clear p q n s vp t vq sourced.
          let may = sym c.write_table.ensures.value ∙ yes in
          let size = right_size binding_value_at projection_bindings c.args.count c.args.used c.args.to.now may in
          subst (λ table. Stored binding_row binding_width projection_bindings c.args.count table (resolved (sources ed p c.args.set.now) q).bindings) (sym (c.write_table.ensures.to_after ∙ table_written binding_value_at projection_bindings c.args.count c.args.used c.args.to.now ed c.args.plan.now c.args.from.now c.args.set.now may))
          (bindings_stored ed p q c.args.set.now vp vq c.args.used c.args.to.now s t sourced size.1 size.2 clear));
    }

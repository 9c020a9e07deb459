-- `entries::answer_row` meets its contract: an entry of another collection changes no answer.
use Prim.Native.Nat.{ℕ, ◌+◌}
use mathlib.Core.Path.{◌≡◌, sym, ap, ◌∙◌, subst}
use mathlib.Core.List.{List, [], ◌∷◌, ◌++◌, map}
use native.Mathlib.Omega.{arith}
use lib.ListN.{length, length-append}
use Rattle.spec_projection.specs.Projection.{Entry}
use Rattle.spec_projection.specs.Lookups.{keyed_value, entries_in}
use Rattle.spec_projection.specs.Valid.{FitsEntry}
use Rattle.panel_rows.specs.Rows.{collection_in, entry_row}
use Rattle.panel_rows.specs.RowsLaws.{entry_collection}
use Rattle.panel_page.specs.Answering.{answering, page_answer_of, answers_in}
use Rattle.panel_page.proofs.AnsweringLaws.{entries_own, entries_other, answers_own, answers_other}
use borrow.Author.Rules.{rules}
use Rattle.panel_page.specs.Shown.{Shows}
use Rattle.panel_page.proofs.entries.answer_row.Goals as goal
use Rattle.panel_page.proofs.entries.answer_row.Goals.{After-entry_collection}

-- the row's collection is that of its entry
own : (c : After-entry_collection) (e : Entry) → FitsEntry e → c.args.row.now ≡ entry_row e → c.entry_collection.result ≡ e.collection
own c e fits is = c.entry_collection.ensures ∙ ap collection_in is ∙ entry_collection e fits

pub returns-then-entry_collection-collection : goal.returns-then-entry_collection-collection
returns-then-entry_collection-collection c =
    record {
      filled = (λ l e fits is at absent t.
          let other : e.collection ≡ c.args.collection → ⊥ = λ same. c.if-entry_collection-collection.true (own (goal.at.returns-then-entry_collection-collection c).After-entry_collection e fits is ∙ same) in (
            subst (Shows (length c.args.keys.now) c.args.answers.now) (ap (λ (f : ℕ → List ℕ). map f c.args.keys.now) (sym (answers_other c.args.collection l e other))) t,
            at ∙ ap length (sym (entries_other c.args.collection l e other)),
          ));
      next = search rules;
    }

pub returns : goal.returns
returns c =
    record {
      filled = (λ l e fits is at absent t.
          let same = sym (own (goal.at.returns c).After-entry_collection e fits is) ∙ c.if-entry_collection-collection.false in
          let more = answers_own c.args.collection l e same (absent same) in
          let long : length (entries_in c.args.collection (l ++ e ∷ [])) ≡ c.args.position + 1 = ap length (entries_own c.args.collection l e same) ∙ length-append (entries_in c.args.collection l) (keyed_value e ∷ []) ∙ omega arith in (
            subst (Shows (length c.args.keys.now) _) (ap (λ (f : ℕ → List ℕ). map f c.args.keys.now) (ap (λ (n : ℕ). answering e.key (page_answer_of n e) (answers_in c.args.collection l)) at ∙ sym more))
                (c.answer_entry.ensures e fits is (answers_in c.args.collection l) t),
            sym long,
          ));
      next = search rules;
    }

-- `collection_page` meets its contract: the checks in their order, and then the rows in the first places.
use Prim.Native.Nat.{ℕ, ◌*◌, ◌/◌, ◌≤◌}
use mathlib.Core.Path.{◌≡◌, refl, sym, ap, ap₂, ◌∙◌}
use mathlib.Core.List.{List, ◌++◌}
use mathlib.Core.Option.{Option}
use native.Mathlib.Omega.{arith}
use lib.ListN.{length, drop}
use lib.Seq.{length-take-le, drop_at}
use Rattle.bytes_records.proofs.Offsets.{fits}
use Rattle.spec_page.specs.Page.{PageRefusal, table_left}
use Rattle.spec_page.proofs.PageLaws.{sixteen, fourteen, taken}
use Rattle.panel_page.specs.PageTable.{page_width, page_bytes, page_answer}
use borrow.Author.Rules.{rules}
use Rattle.panel_page.proofs.collection_page.Goals as goal
use Rattle.panel_page.proofs.collection_page.Goals.{Else-answers-keys}

-- the places of the answer table
abbrev places : List ℕ → ℕ
places before = length before / page_width

-- the rows of all keys are within the table
within : (c : Else-answers-keys) → length c.args.keys.now * page_width ≤ length c.args.answers.now
within c = fits (length c.args.answers.now) page_width (length c.args.keys.now) (omega arith) (omega arith)

pub returns-then-keys-gt-KEYS : goal.returns-then-keys-gt-KEYS
unfolding table_left
returns-then-keys-gt-KEYS c =
    let n = length c.args.keys.now in
    let refused = sixteen n (places c.args.answers.now) (omega arith) in
    record { told = sym (ap (page_answer n) refused); written = (λ p s v. sym (ap (λ (r : Option PageRefusal). table_left r (page_bytes p c.args.collection c.args.keys.now) c.args.answers.now) refused)); kept = refl }

pub returns-then-answers-keys : goal.returns-then-answers-keys
unfolding table_left
returns-then-answers-keys c =
    let n = length c.args.keys.now in
    let refused = fourteen n (places c.args.answers.now) (omega arith) (omega arith) in
    record { told = sym (ap (page_answer n) refused); written = (λ p s v. sym (ap (λ (r : Option PageRefusal). table_left r (page_bytes p c.args.collection c.args.keys.now) c.args.answers.now) refused)); kept = refl }

pub slice_bounds-fill_page-end-2 : goal.slice_bounds-fill_page-end-2
slice_bounds-fill_page-end-2 c = sym (length-take-le (length c.args.keys.now * page_width) c.args.answers.now (within (goal.at.slice_bounds-fill_page-end-2 c).Else-answers-keys))

pub fill_page-requires : goal.fill_page-requires
fill_page-requires c = (omega arith, length-take-le (length c.args.keys.now * page_width) c.args.answers.now (within (goal.at.fill_page-requires c).Else-answers-keys))

pub returns : goal.returns
unfolding table_left
returns c =
    let n = length c.args.keys.now in
    let passed = taken n (places c.args.answers.now) (omega arith) (omega arith) in
    let size : length c.fill_page.new.answers ≡ n * page_width = omega (arith, length-take-le (n * page_width) c.args.answers.now (within (goal.at.returns c).Else-answers-keys)) in record {
      told = sym (ap (page_answer n) passed);
      written = (λ p s v.
          let made = c.fill_page.ensures p s v in
          ap₂ (λ (rows : List ℕ) (k : ℕ). rows ++ drop k c.args.answers.now) made (sym size ∙ ap length made)
          ∙ sym (ap (λ (r : Option PageRefusal). table_left r (page_bytes p c.args.collection c.args.keys.now) c.args.answers.now) passed));
      kept = drop_at c.fill_page.new.answers (drop (n * page_width) c.args.answers.now) (n * page_width) size;
    }

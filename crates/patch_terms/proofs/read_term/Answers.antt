-- `read_term` meets its contract: where the tabs stand, then what the key spells, then how the text is judged.
-- ---- where a tab was found
-- ---- where it is the only one
use Rattle.std.specs.Prelude as code
use Rattle.std.specs.Option.{ok_or}
use Rattle.patch_terms.specs.declared.TermRefusal.{TermRefusal}
use Rattle.patch_terms.specs.declared.TermRefusal.TheVariants.{OtherForm}
use Prim.Native.Nat.{ℕ, suc, ◌+◌, ◌-◌, ◌≤◌, ◌<◌}
use mathlib.Core.Path.{◌≡◌, refl, sym, ap, ◌∙◌}
use mathlib.Core.List.{List}
use native.Mathlib.Omega.{arith}
use lib.ListN.{length, take, drop, length-drop}
use lib.Seq.{length-take-le}
use borrow.Author.Rules.{rules}
use Rattle.spec_listing.specs.Escapes.{tab}
use Rattle.spec_decimal.specs.Decimal.{read_decimal}
use Rattle.spec_lists.specs.Options.{optional_of}
use Rattle.spec_lists.proofs.ListLaws.{lent_from_lem}
use Rattle.patch_terms.specs.Places.{byte_place_of}
use Rattle.patch_terms.specs.PlacesLaws.{byte_place_of_within}
use Rattle.patch_terms.specs.Answers.{judged_term}
use Rattle.patch_terms.specs.AnswersLaws.{line_whole, line_second_tab, line_unspelled, line_judged}
use Rattle.patch_terms.proofs.read_term.Goals as goal
use Rattle.patch_terms.proofs.read_term.Goals.{After-place_of-tab, After-read_u64, Else-place_of-line, Else-tab-line}

abbrev line : After-place_of-tab → List ℕ
line k = k.args.line.now

within : (k : After-place_of-tab) → k.place_of-tab.result ≤ length (line k)
within k = omega (arith, byte_place_of_within tab (line k), k.place_of-tab.ensures.place)

abbrev start : Else-tab-line → ℕ
start c = c.place_of-tab.result + 1

found : (c : Else-tab-line) → byte_place_of tab (line (goal.at.Else-tab-line c).After-place_of-tab) < length (line (goal.at.Else-tab-line c).After-place_of-tab)
found c = omega (arith, within (goal.at.Else-tab-line c).After-place_of-tab, c.place_of-tab.ensures.place, c.if-tab-line.false)

started : (c : Else-tab-line) → start c ≡ suc (byte_place_of tab (line (goal.at.Else-tab-line c).After-place_of-tab))
started c = omega (arith, c.place_of-tab.ensures.place)

inside : (c : Else-tab-line) → start c ≤ length (line (goal.at.Else-tab-line c).After-place_of-tab)
inside c = omega (arith, found c, started c)

abbrev behind : Else-tab-line → List ℕ
behind c = drop (suc (byte_place_of tab (line (goal.at.Else-tab-line c).After-place_of-tab))) (line (goal.at.Else-tab-line c).After-place_of-tab)

lent : (c : Else-tab-line) → take (length (line (goal.at.Else-tab-line c).After-place_of-tab) - start c) (drop (start c) (line (goal.at.Else-tab-line c).After-place_of-tab)) ≡ behind c
lent c = lent_from_lem (line (goal.at.Else-tab-line c).After-place_of-tab) (start c) ∙ ap (λ (n : ℕ). drop n (line (goal.at.Else-tab-line c).After-place_of-tab)) (started c)

only : (c : Else-place_of-line) → byte_place_of tab (behind (goal.at.Else-place_of-line c).Else-tab-line) ≡ length (behind (goal.at.Else-place_of-line c).Else-tab-line)
only c =
    omega (arith, byte_place_of_within tab (behind (goal.at.Else-place_of-line c).Else-tab-line), sym (c.place_of.ensures.place ∙ ap (byte_place_of tab) (lent (goal.at.Else-place_of-line c).Else-tab-line)), c.if-place_of-line.false, length-drop (suc (byte_place_of tab (line (goal.at.Else-place_of-line c).After-place_of-tab))) (line (goal.at.Else-place_of-line c).After-place_of-tab), started (goal.at.Else-place_of-line c).Else-tab-line)

-- what the bytes before it spell
spelled : (k : After-read_u64) → let l = line (goal.at.After-read_u64 k).After-place_of-tab in read_decimal (take (byte_place_of tab l) l) ≡ optional_of k.read_u64.result
spelled k =
    sym (k.read_u64.ensures ∙ ap (λ (n : ℕ). read_decimal (take n (line (goal.at.After-read_u64 k).After-place_of-tab))) k.place_of-tab.ensures.place)

pub returns-then-tab-line : goal.returns-then-tab-line
returns-then-tab-line c = line_whole (line (goal.at.returns-then-tab-line c).After-place_of-tab) (sym c.place_of-tab.ensures.place ∙ c.if-tab-line.true)

pub overflow_add-start : goal.overflow_add-start
overflow_add-start c = omega (arith, inside c)

pub slice_bounds-place_of-count : goal.slice_bounds-place_of-count
slice_bounds-place_of-count c = inside c

pub slice_bounds-place_of-start : goal.slice_bounds-place_of-start
slice_bounds-place_of-start c = inside c

pub overflow_sub-line : goal.overflow_sub-line
overflow_sub-line c = inside (goal.at.overflow_sub-line c).Else-tab-line

pub returns-then-place_of-line : goal.returns-then-place_of-line
returns-then-place_of-line c =
    line_second_tab (line (goal.at.returns-then-place_of-line c).After-place_of-tab) (found (goal.at.returns-then-place_of-line c).Else-tab-line) (omega (arith, sym (c.place_of.ensures.place ∙ ap (byte_place_of tab) (lent (goal.at.returns-then-place_of-line c).Else-tab-line)), c.if-place_of-line.true, length-drop (suc (byte_place_of tab (line (goal.at.returns-then-place_of-line c).After-place_of-tab))) (line (goal.at.returns-then-place_of-line c).After-place_of-tab), started (goal.at.returns-then-place_of-line c).Else-tab-line))

pub slice_bounds-read_u64-end : goal.slice_bounds-read_u64-end
slice_bounds-read_u64-end c = sym (length-take-le _ _ (within (goal.at.slice_bounds-read_u64-end c).After-place_of-tab))

pub slice_bounds-judge_term-count : goal.slice_bounds-judge_term-count
slice_bounds-judge_term-count c = inside (goal.at.slice_bounds-judge_term-count c).Else-tab-line

pub slice_bounds-judge_term-start : goal.slice_bounds-judge_term-start
slice_bounds-judge_term-start c = inside (goal.at.slice_bounds-judge_term-start c).Else-tab-line

-- a key that is missing is another form, and one that is there is the key
missing : (o : code.Option ℕ) (r : TermRefusal) → ◌≡◌ {A = code.Result ℕ TermRefusal} (ok_or o OtherForm) (code.Err r) → (o ≡ code.None) × (OtherForm ≡ r)
missing code.None r e = (refl, cc)
missing (code.Some k) r e = absurd (let z : ◌≡◌ {A = ℕ} 0 1 = cc in omega arith)

there : (o : code.Option ℕ) (k : ℕ) → ◌≡◌ {A = code.Result ℕ TermRefusal} (ok_or o OtherForm) (code.Ok k) → o ≡ code.Some k
there code.None k e = absurd (let z : ◌≡◌ {A = ℕ} 0 1 = cc in omega arith)
there (code.Some n) k e = let same : n ≡ k = cc in ap code.Some same

pub returns-in_err-key : goal.returns-in_err-key
returns-in_err-key c =
    let none = missing c.read_u64.result c.in_err-key.field-0.0 (sym c.ok_or.ensures.value ∙ c.in_err-key.was) in
    let told : c.from_residual.result ≡ code.Err c.in_err-key.field-0.0 = search rules in
    told ∙ ap code.Err (sym none.1)
    ∙ line_unspelled (line (goal.at.returns-in_err-key c).After-place_of-tab) (found (goal.at.returns-in_err-key c).Else-tab-line) (only (goal.at.returns-in_err-key c).Else-place_of-line) (spelled (goal.at.returns-in_err-key c).After-read_u64 ∙ ap optional_of none.0)

pub returns : goal.returns
returns c =
    let some = there c.read_u64.result c.in_ok-key.key (sym c.ok_or.ensures.value ∙ c.in_ok-key.was) in
    c.judge_term.ensures ∙ ap (judged_term _ (start (goal.at.returns c).Else-tab-line)) (lent (goal.at.returns c).Else-tab-line)
    ∙ line_judged (line (goal.at.returns c).After-place_of-tab) (found (goal.at.returns c).Else-tab-line) (only (goal.at.returns c).Else-place_of-line) _ (spelled (goal.at.returns c).After-read_u64 ∙ ap optional_of some) (start (goal.at.returns c).Else-tab-line) (started (goal.at.returns c).Else-tab-line)

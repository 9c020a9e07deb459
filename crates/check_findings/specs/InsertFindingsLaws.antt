-- Laws of findings put into a table: two lists one after the other, and what the table holds then.
use Rattle.std.specs.Prelude.{ℕ, ◌+◌, ◌*◌, ◌≤◌, ◌≡◌, refl, List, [], ◌∷◌, ◌++◌, length}
use Rattle.std.proofs.Common.{sym, ap, ap₂, ◌∙◌, subst, append_assoc, append-nil, arith, length-append}
use Rattle.spec_checks.specs.Finding.{Finding}
use Rattle.spec_checks.specs.Answer.{record_length}
use Rattle.check_table.specs.FindingTable.{inserted_count, inserted_numbers, KeptFindings}
use Rattle.check_table.specs.FindingTableLaws.{kept_snoc, inserted_length}
use Rattle.check_findings.specs.InsertFindings.{inserted_all}

pub inserted_all_append : (a b : List Finding) (count : ℕ) (ns : List ℕ) → inserted_all (a ++ b) count ns ≡ inserted_all b (inserted_all a count ns).0 (inserted_all a count ns).1
unfolding inserted_all
inserted_all_append [] b count ns = refl
inserted_all_append (f ∷ a) b count ns = inserted_all_append a b (inserted_count f count ns) (inserted_numbers f count ns)

-- a table after a list of findings
abbrev pub Inserted : List Finding → ℕ → List ℕ → ℕ → List ℕ → Type 0
Inserted fs count ns count' ns' = (count' ≡ (inserted_all fs count ns).0) × (ns' ≡ (inserted_all fs count ns).1)

pub inserted_then : (a b : List Finding) (count : ℕ) (ns : List ℕ) (count₁ : ℕ) (ns₁ : List ℕ) (count₂ : ℕ) (ns₂ : List ℕ) → Inserted a count ns count₁ ns₁ → Inserted b count₁ ns₁ count₂ ns₂ → Inserted (a ++ b) count ns count₂ ns₂
inserted_then a b count ns count₁ ns₁ count₂ ns₂ h k =
    let both = ap₂ (inserted_all b) h.0 h.1 ∙ sym (inserted_all_append a b count ns) in
    (k.0 ∙ ap (λ t. t.0) both, k.1 ∙ ap (λ t. t.1) both)

-- the table holds these findings too, where it has three places for each that was found so far
pub kept_all : (fs raw : List Finding) (count : ℕ) (ns : List ℕ) → KeptFindings raw count ns → record_length * (length raw + length fs) ≤ length ns
    → KeptFindings (raw ++ fs) (inserted_all fs count ns).0 (inserted_all fs count ns).1
unfolding inserted_all
kept_all [] raw count ns k room = subst (λ l. KeptFindings l count ns) (sym (append-nil raw)) k
kept_all (f ∷ fs) raw count ns k room =
    let more : length (raw ++ (f ∷ [])) ≡ length raw + 1 = length-append raw (f ∷ []) in
    let next = kept_snoc f raw count ns k (omega arith) in
    let long = inserted_length f raw count ns k (omega arith) in
    subst (λ l. KeptFindings l (inserted_all (f ∷ fs) count ns).0 (inserted_all (f ∷ fs) count ns).1) (append_assoc raw (f ∷ []) fs) (kept_all fs (raw ++ (f ∷ [])) (inserted_count f count ns) (inserted_numbers f count ns) next (omega arith))

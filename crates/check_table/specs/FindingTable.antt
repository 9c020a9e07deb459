-- Findings as three numbers each of a list, in order and without repeats: 01, 'Patch checks'.
use Rattle.std.specs.Prelude.{ℕ, ◌+◌, ◌*◌, ◌≡◌, Bool, List, [], ◌∷◌, ◌++◌, leb, length, take, drop, if◌then◌else◌}
use Rattle.spec_lists.specs.Order.{upsert, sort_unique}
use Rattle.spec_checks.specs.Finding as model
use Rattle.spec_checks.specs.Answer.{record_length, finding_words}
use Rattle.check_table.specs.declared.Finding.{Finding}

abbrev pub finding_of : Finding → model.Finding
finding_of f = record { kind = f.kind; domain = f.domain; secondary = f.secondary }

-- the records of a list of numbers
unfoldable pub findings_in : List ℕ → List model.Finding
findings_in [] = []
findings_in (k ∷ []) = []
findings_in (k ∷ d ∷ []) = []
findings_in (k ∷ d ∷ s ∷ ns) = record { kind = k; domain = d; secondary = s } ∷ findings_in ns

-- there is room for one more record than count
unfoldable pub table_has_room : ℕ → List ℕ → Bool
table_has_room count ns = leb (record_length * count + record_length) (length ns)

-- the first count records and one more finding, unless it is among them
unfoldable pub inserted_findings : model.Finding → ℕ → List ℕ → List model.Finding
inserted_findings f count ns = upsert model.finding_key f (findings_in (take (record_length * count) ns))

-- how many records there are then
unfoldable pub inserted_count : model.Finding → ℕ → List ℕ → ℕ
inserted_count f count ns = if table_has_room count ns then length (inserted_findings f count ns) else count

-- the whole list then: what stands past the records is as it was
unfoldable pub inserted_numbers : model.Finding → ℕ → List ℕ → List ℕ
inserted_numbers f count ns =
    let fs = inserted_findings f count ns in
    if table_has_room count ns then finding_words fs ++ drop (record_length * length fs) ns else ns

-- the table holds the findings so far, sorted and without repeats
pub record KeptFindings (raw : List model.Finding) (count : ℕ) (ns : List ℕ) : Type 0 where
  pub counted : count ≡ length (sort_unique model.finding_key raw)
  pub words : take (record_length * count) ns ≡ finding_words (sort_unique model.finding_key raw)

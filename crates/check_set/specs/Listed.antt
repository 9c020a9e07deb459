-- What the listing of findings leaves in a table: 01, 'Patch checks'.
use Rattle.std.specs.Prelude.{ℕ, ◌*◌, ◌-◌, ◌≡◌, List, [], ◌++◌, eqb, length, take}
use Rattle.std.proofs.Math.Option.{Option, none, some}
use Rattle.spec_patch.specs.Sizes.{set_patches}
use Rattle.spec_patch.specs.Patch.{Envelope, Patch}
use Rattle.spec_patch.specs.Edition.{Edition}
use Rattle.spec_checks.specs.Finding.{Finding, finding, report, empty_operations, duplicate_patch_id}
use Rattle.spec_checks.specs.PatchChecks.{envelope_findings}
use Rattle.spec_checks.specs.SetChecks.{pair_findings}
use Rattle.spec_checks.specs.Findings.{Place, Findings}
use Rattle.spec_checks.specs.Answer.{record_length, finding_words}
use Rattle.patch_walk.specs.Steps.{AtSteps}
use Rattle.check_findings.specs.Ids.{id_seen}
use Rattle.check_findings.specs.InsertFindingsLaws.{Inserted}
use Rattle.check_set.specs.declared.list_operations.Listed.{Listed}
use Rattle.check_set.specs.declared.list_set.FindingsListed.{FindingsListed}
use Rattle.check_set.specs.CheckAnswers.{place_to}

-- five records for each patch of a set but the first, which is more than two for each operation of a patch and four
abbrev pub table_length : ℕ
table_length = record_length * 5 * (set_patches - 1)

-- these findings were put into a table that had so many records, and the walk stands before these patches
abbrev pub ListedAs : Edition → List ℕ → List Finding → ℕ → List ℕ → Listed → List ℕ → List Patch → Type 0
ListedAs ed set fs kept before r after ps = Inserted fs kept before r.count after × AtSteps ed set r.next [] ps

-- kinds 6, 10, 13 and 14
unfoldable pub head_findings : Envelope → ℕ → List Finding
head_findings e count = report (eqb count 0) (finding empty_operations e.id 0) ++ envelope_findings e

-- the findings of neighbours
unfoldable pub previous_listed : Option Envelope → Envelope → List Finding
previous_listed none e = []
previous_listed (some q) e = pair_findings q e

-- kind 4, and these
unfoldable pub after_listed : List ℕ → Option Envelope → Envelope → List Finding
after_listed ids previous e = report (id_seen e.id ids) (finding duplicate_patch_id e.id e.sequence) ++ previous_listed previous e

abbrev pub listed_to : Place → ℕ → FindingsListed
listed_to p n = record { place = place_to p; count = n }

-- the answer and the front of the table tell the findings
abbrev pub FindingsListedAs : Findings → FindingsListed → List ℕ → Type 0
FindingsListedAs f r after = (r ≡ listed_to f.place (length f.found)) × (take (record_length * length f.found) after ≡ finding_words f.found)

-- The findings of envelopes as values, and the lists that they stand for: 01, 'Patch checks'.
use Rattle.std.specs.Prelude.{ℕ, List, [], ◌∷◌, ◌++◌, Option, None, Some}
use Rattle.spec_checks.specs.Finding.{Finding}
use Rattle.check_table.specs.FindingTable.{finding_of}
use Rattle.check_table.specs.declared.Finding as code
use Rattle.check_findings.specs.declared.envelope_checks.EnvelopeFindings.{EnvelopeFindings}
use Rattle.check_findings.specs.declared.envelope_checks.PairFindings.{PairFindings}

abbrev pub envelope_row : ℕ → ℕ → ℕ → Finding
envelope_row k d s = record { kind = k; domain = d; secondary = s }

-- none, or the one that there is
abbrev pub optional_listed : Option code.Finding → List Finding
optional_listed None = []
optional_listed (Some f) = finding_of f ∷ []

abbrev pub envelope_listed : EnvelopeFindings → List Finding
envelope_listed r = optional_listed r.revision ++ (optional_listed r.patch_id ++ optional_listed r.stream_id)

abbrev pub pair_listed : PairFindings → List Finding
pair_listed r = optional_listed r.document ++ (optional_listed r.epoch ++ (optional_listed r.stream ++ optional_listed r.sequence))

-- What the check answers, and what it writes into a lent list of numbers: 01, 'Patch checks'.
use Rattle.std.specs.Prelude.{ℕ, ◌/◌, length, take, drop}
use mathlib.Core.List.{List, ◌++◌, flat_map}
use Rattle.spec_patch.specs.Patch.{Patch}
use Rattle.spec_checks.specs.Finding.{Finding, finding_key}
use Rattle.spec_checks.specs.Findings.{Place, findings}

-- a record is three u64: kind, domain, secondary
abbrev pub record_length : ℕ
record_length = 3

unfoldable pub finding_words : List Finding → List ℕ
finding_words = flat_map finding_key

-- the whole records that fit a number of places
unfoldable pub fitting : ℕ → List Finding → List Finding
fitting room fs = take (room / record_length) fs

-- the lent list after the call: the records that fit, from its start, then what it held
unfoldable pub write_findings : List Finding → List ℕ → List ℕ
write_findings fs lent =
    let words = finding_words (fitting (length lent) fs) in
    words ++ drop (length words) lent

-- the answer: the place, how many findings there are, and how many records were written
pub record Checked : Type 0 where
  pub place : Place
  pub logical : ℕ
  pub written : ℕ

-- the check of a patch list, with so many places lent
unfoldable pub checked_list : List Patch → ℕ → Checked
checked_list ps room =
    let f = findings ps in
    record { place = f.place; logical = length f.found; written = length (fitting room f.found) }

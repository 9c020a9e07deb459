-- What judging expectations answers, and the table that it leaves.
use Rattle.std.specs.Prelude as code
use Rattle.std.specs.Prelude.{ℕ, ◌+◌, ◌≤◌, Bool, true, false, List, length}
use Rattle.std.proofs.Math.Option.{Option, none, some}
use Rattle.spec_dependencies.specs.Expectations.{Expectation}
use Rattle.spec_dependencies.specs.Settled.{Settled, judge_all}
use Rattle.set_dependencies.specs.SettledRows.{row_capacity, SettledTable, SettledIn}
use Rattle.set_dependencies.specs.declared.settled_rows.SettledPlaces.{SettledPlaces}
use Rattle.set_dependencies.specs.declared.settling.KeyUse.{KeyUse}
use Rattle.set_dependencies.specs.declared.settling.KeyUse.TheVariants as key-use

-- an added key must be absent
abbrev pub expected_of : KeyUse → Bool
expected_of key-use.Added = false
expected_of key-use.Kept = true
expected_of key-use.Taken = true

-- a taken one is gone afterwards
abbrev pub left_of : KeyUse → Bool
left_of key-use.Added = true
left_of key-use.Kept = true
left_of key-use.Taken = false

abbrev pub expectation_of : ℕ → ℕ → KeyUse → Expectation
expectation_of c k u = record { collection = c; key = k; expected = expected_of u; left = left_of u }

-- a key that was settled before: what is settled now stands in the rows, which are as many, or there is a contradiction
abbrev pub SettlesAgain : Option (List Settled) → ℕ → Bool → List ℕ → Type 0
SettlesAgain (some u) n true table = SettledTable n table u
SettlesAgain (some u) n false table = ⊥
SettlesAgain none n true table = ⊥
SettlesAgain none n false table = Unit {0}

-- what is settled now stands in the table, or there is a contradiction
abbrev pub SettlesTo : Option (List Settled) → code.Option SettledPlaces → List ℕ → Type 0
SettlesTo (some u) (code.Some p) table = SettledIn p table u
SettlesTo (some u) code.None table = ⊥
SettlesTo none (code.Some p) table = ⊥
SettlesTo none code.None table = Unit {0}

-- whatever a table stores at these places, judging these expectations gives the answer and the table afterwards, if there is a row for each
abbrev pub Judges : SettledPlaces → List ℕ → List ℕ → code.Option SettledPlaces → List Expectation → Type 0
Judges p table exit r es = (t : List Settled) → SettledIn p table t → p.count + length es ≤ row_capacity → SettlesTo (judge_all es t) r exit

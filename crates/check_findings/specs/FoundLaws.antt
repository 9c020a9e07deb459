-- There is a finding in two lists where one of them has one.
use Rattle.std.specs.Prelude.{◌≡◌, refl, Bool, true, false, ◌||◌, List, [], ◌∷◌, ◌++◌, Option, None, Some, is_some}
use Rattle.check_table.specs.declared.Finding as code
use Rattle.spec_checks.specs.Finding.{Finding, report}
use Rattle.check_findings.specs.EnvelopeChecks.{optional_listed}
use Rattle.check_findings.specs.Found.{is_found}

pub found_first : (a b : List Finding) → is_found a ≡ true → is_found (a ++ b) ≡ true
unfolding is_found
found_first [] b h = cc
found_first (x ∷ a) b h = refl

pub found_second : (a b : List Finding) → is_found a ≡ false → is_found (a ++ b) ≡ is_found b
unfolding is_found
found_second [] b h = refl
found_second (x ∷ a) b h = cc

pub found_append : (a b : List Finding) → is_found (a ++ b) ≡ (is_found a || is_found b)
unfolding is_found
found_append [] b = refl
found_append (x ∷ a) b = refl

pub found_report : (t : Bool) (f : Finding) → is_found (report t f) ≡ t
unfolding is_found report
found_report true f = refl
found_report false f = refl

pub found_optional : (o : Option code.Finding) → is_found (optional_listed o) ≡ is_some o
unfolding is_found
found_optional None = refl
found_optional (Some f) = refl

pub found_next : (o : Option code.Finding) (rest : List Finding) → is_found (optional_listed o ++ rest) ≡ (is_some o || is_found rest)
unfolding is_found
found_next None rest = refl
found_next (Some f) rest = refl

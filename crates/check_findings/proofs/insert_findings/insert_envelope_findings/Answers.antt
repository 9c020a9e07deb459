-- `check_findings::insert_findings::insert_envelope_findings` meets its contract: three findings in their order.
use Rattle.check_findings.specs.InsertFindingsLaws.{inserted_then}
use Rattle.check_findings.proofs.insert_findings.insert_envelope_findings.Goals as goal

pub returns : goal.returns
returns c =
    let all = inserted_then _ _ _ _ _ _ _ _ (c.insert_optional-one.ensures.counted, c.insert_optional-one.ensures.numbers) (inserted_then _ _ _ _ _ _ _ _ (c.insert_optional-two.ensures.counted, c.insert_optional-two.ensures.numbers) (c.insert_optional.ensures.counted, c.insert_optional.ensures.numbers)) in record { counted = all.0; numbers = all.1 }

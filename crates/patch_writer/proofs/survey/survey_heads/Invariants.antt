use Rattle.patch_writer.proofs.Surveyed.{HeadsSeen}
use Rattle.patch_writer.proofs.survey.survey_heads.Given as goal

abbrev pub invariant-loop-head : goal.invariant-loop-head
invariant-loop-head l = HeadsSeen l.heads l.operations l.bytes l.head-index

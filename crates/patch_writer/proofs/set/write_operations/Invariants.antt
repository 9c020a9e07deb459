use Rattle.std.proofs.Common.{drop}
use Rattle.patch_writer.specs.Survey.{operation_bytes}
use Rattle.patch_writer.proofs.Progress.{Progress}
use Rattle.patch_writer.proofs.set.write_operations.Given as goal

abbrev pub invariant-loop-place : goal.invariant-loop-place
invariant-loop-place l = Progress l.initial.out l.at (operation_bytes l.texts l.places) l.out l.next (operation_bytes l.texts (drop l.place-index l.places))

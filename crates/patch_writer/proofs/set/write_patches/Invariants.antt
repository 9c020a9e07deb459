use Rattle.std.proofs.Common.{drop}
use mathlib.Core.List.{flat_map}
use Rattle.spec_patch.specs.Encode.{encode_patch}
use Rattle.patch_writer.specs.Set.{list_from}
use Rattle.patch_writer.specs.Survey.{HeadsHold}
use Rattle.patch_writer.proofs.Progress.{Progress}
use Rattle.patch_writer.proofs.set.write_patches.Given as goal

abbrev pub invariant-loop-head : goal.invariant-loop-head
invariant-loop-head l = record {
  heads : HeadsHold l.texts (drop l.head-index l.heads) l.rest;
  written : Progress l.initial.out l.at (flat_map encode_patch (list_from l.texts l.heads l.places)) l.out l.next (flat_map encode_patch (list_from l.texts (drop l.head-index l.heads) l.rest));
}

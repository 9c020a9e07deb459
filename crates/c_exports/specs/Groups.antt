-- What the exported call of a group promises: an answer of the call below, on the batches that the numbers tell, and the memory as that call leaves it.
use Rattle.std.specs.Prelude.{ℕ, ◌≡◌, true, false, List}
use Rattle.session_group.specs.declared.GroupBatch.{GroupBatch}
use Rattle.session_group.specs.Groups.{Names}
use Rattle.session_lent.specs.Halves.{Anchors, Half}
use Rattle.session_lent_group.specs.LentGroups.{LentGroupCall}
use Rattle.c_answers.specs.declared.groups.GeysertrayGroupAnswer.{GeysertrayGroupAnswer}
use Rattle.c_answers.specs.GroupNumbers.{batch_count, batches_told, batches_known, group_absent, group_told}
use Rattle.c_exports.specs.Calls.{Told}

module _ (numbers sets : List ℕ) (k : Anchors) (own : List ℕ → Half) (first second : Half) where
  -- a group that was called: its places have the batches that the numbers tell
  abbrev pub GroupedAs : (r : GeysertrayGroupAnswer) (first' second' : Half) → Type 0
  GroupedAs r first' second' =
      (places : List GroupBatch) × (Names (batch_count numbers) places (batches_told numbers) × Told group_told (λ answer. LentGroupCall k own places (batch_count numbers) sets first second answer first' second') r)

  -- 4 for numbers that are no sevens, and for what is no edition; nothing is changed then
  pub record ExportedGroup (r : GeysertrayGroupAnswer) (first' second' : Half) : Type 0 where
    pub known : batches_known numbers ≡ true → GroupedAs r first' second'
    pub unknown : batches_known numbers ≡ false → (r ≡ group_absent 4) × ((first' ≡ first) × (second' ≡ second))

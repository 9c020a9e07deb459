-- What the passes over a set answer before anything is written.
use Rattle.std.specs.Prelude.{ℕ, ◌+◌, ◌≤◌, ◌≡◌, true, ◌&&◌, leb, length, take, drop, Result, Ok, Err, if◌then◌else◌}
use mathlib.Core.List.{List, map, flat_map}
use Rattle.spec_lists.specs.Lists.{all}
use Rattle.spec_patch.specs.TextRule.{allowed, few_characters}
use Rattle.spec_patch.specs.Sizes.{set_bytes, highest_score}
use Rattle.spec_patch.specs.Edition.{Edition, has_kind}
use Rattle.spec_patch.specs.Encode.{encode_operation, encode_patch}
use Rattle.spec_patch.specs.Write.{value_passes, well_formed, few_enough}
use Rattle.projection_patch.specs.Meaning.{value_of, operation_of}
use Rattle.projection_patch.specs.declared.patch.ProjectionPatch.{ProjectionPatch}
use Rattle.projection_patch.specs.declared.patch.OperationPlace.{OperationPlace}
use Rattle.projection_patch.specs.declared.patch.ProjectionPatchSet.{ProjectionPatchSet}
use Rattle.projection_patch.specs.declared.patch.ProjectionPatchValue.{ProjectionPatchValue}
use Rattle.projection_patch.specs.declared.patch.ProjectionPatchOperation.{ProjectionPatchOperation}
use Rattle.projection_patch.specs.declared.text_rule.TextFault.{TextFault}
use Rattle.projection_patch.specs.declared.text_rule.TextFault.TheVariants.{Malformed, ManyCharacters}
use Rattle.projection_patch.specs.TextRule.{judged}
use Rattle.patch_part_writer.specs.declared.extent.TextPlace.{TextPlace}
use Rattle.patch_part_writer.specs.Answer.{text_refusal}
use Rattle.patch_part_writer.specs.Extent.{value_text, operation_text}
use Rattle.patch_part_writer.specs.Parts.{inside_texts}
use Rattle.patch_part_writer.specs.declared.written.WriteRefusal.{WriteRefusal}
use Rattle.patch_part_writer.specs.declared.written.WriteRefusal.TheVariants as refusal
use Rattle.patch_writer.specs.Set.{operation_at, list_from, heads, used, operation_total, head_sizes, operation_sizes, set_size, few_operations, short_at, inside_at, allowed_at, few_at, capacities_kept}

-- so many operations, and so many bytes
abbrev pub counts : ℕ → ℕ → Result (ℕ × ℕ) WriteRefusal
counts operations bytes = Ok (operations, bytes)

unfoldable pub head_survey : List ProjectionPatch → Result (ℕ × ℕ) WriteRefusal
head_survey hs = if all few_operations hs then counts (operation_total hs) (head_sizes hs) else Err refusal.OverCapacity

-- the judgement of a text by its place, of a score, of a value and of an operation
unfoldable pub judged_text : List ℕ → TextPlace → Result (Unit {0}) TextFault
judged_text texts t = judged (inside_texts texts t && allowed true (take t.len (drop t.start texts))) (few_characters true (take t.len (drop t.start texts)))

unfoldable pub judged_score : Edition → ℕ → Result (Unit {0}) TextFault
judged_score ed n = judged (has_kind ed 5 && leb n highest_score) true

unfoldable pub judged_value : Edition → List ℕ → ProjectionPatchValue → Result (Unit {0}) TextFault
judged_value ed texts v = judged (inside_texts texts (value_text v) && well_formed ed (value_of texts v)) (few_enough (value_of texts v))

unfoldable pub judged_operation : Edition → List ℕ → ProjectionPatchOperation → Result (Unit {0}) TextFault
judged_operation ed texts o =
    judged (inside_texts texts (operation_text o) && value_passes (well_formed ed) (operation_of texts o)) (value_passes few_enough (operation_of texts o))

-- the judgement of all values: any that is malformed comes before any with too many characters
abbrev pub judged_values : Edition → List ℕ → List OperationPlace → Result (Unit {0}) TextFault
judged_values ed texts ps = judged (all (allowed_at ed texts) ps) (all (few_at texts) ps)

-- the judgement of two values
abbrev pub worse : Result (Unit {0}) TextFault → Result (Unit {0}) TextFault → Result (Unit {0}) TextFault
worse (Ok tt) b = b
worse (Err Malformed) b = Err Malformed
worse (Err ManyCharacters) (Ok tt) = Err ManyCharacters
worse (Err ManyCharacters) (Err f) = Err f

-- so many bytes, and the judgement of the values
abbrev pub measured : ℕ → Result (Unit {0}) TextFault → Result (ℕ × Result (Unit {0}) TextFault) WriteRefusal
measured bytes judgement = Ok (bytes, judgement)

unfoldable pub operation_survey : Edition → List ℕ → List OperationPlace → Result (ℕ × Result (Unit {0}) TextFault) WriteRefusal
operation_survey ed texts ps = if all short_at ps then measured (operation_sizes ps) (judged_values ed texts ps) else Err refusal.OverCapacity

-- 10, then 12 for characters
abbrev pub by_values : ℕ → ℕ → Result (Unit {0}) TextFault → Result (ℕ × ℕ) WriteRefusal
by_values operations bytes (Ok tt) = counts operations bytes
by_values operations bytes (Err f) = Err (text_refusal f)

-- 12 for too many bytes, then what the values say
unfoldable pub surveyed : ℕ → ℕ → Result (Unit {0}) TextFault → Result (ℕ × ℕ) WriteRefusal
surveyed operations bytes judgement = if leb bytes set_bytes then by_values operations bytes judgement else Err refusal.OverCapacity

-- 12 for any capacity, then what the values say
unfoldable pub set_survey : Edition → List ℕ → ProjectionPatchSet → Result (ℕ × ℕ) WriteRefusal
set_survey ed texts set =
    if capacities_kept set then by_values (operation_total (heads set)) (set_size set) (judged_values ed texts (used set))
    else Err refusal.OverCapacity

-- ---- the passes that write

-- the bytes of operations
abbrev pub operation_bytes : List ℕ → List OperationPlace → List ℕ
operation_bytes texts ps = flat_map encode_operation (map (operation_at texts) ps)

-- texts that are within the texts, and keep their capacity
pub record TextsHold (texts : List ℕ) (ps : List OperationPlace) : Type 0 where
  pub short : all short_at ps ≡ true
  pub inside : all (inside_at texts) ps ≡ true

-- what the pass over operations counts on: their texts hold, and the output has room
pub record OperationsReady (texts : List ℕ) (ps : List OperationPlace) (room at : ℕ) : Type 0 where
  pub hold : TextsHold texts ps
  pub enough : at + length (operation_bytes texts ps) ≤ room

-- heads whose counts fit and are those of the places, whose texts hold
pub record HeadsHold (texts : List ℕ) (hs : List ProjectionPatch) (ps : List OperationPlace) : Type 0 where
  pub few : all few_operations hs ≡ true
  pub counted : operation_total hs ≡ length ps
  pub hold : TextsHold texts ps

-- what the pass over heads counts on: the counts fit, the texts are within the texts and keep their capacity, and the output has room
pub record ReadyToWrite (texts : List ℕ) (hs : List ProjectionPatch) (ps : List OperationPlace) (room at : ℕ) : Type 0 where
  pub heads : HeadsHold texts hs ps
  pub enough : at + length (flat_map encode_patch (list_from texts hs ps)) ≤ room

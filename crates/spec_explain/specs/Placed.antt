-- What is claimed of the patch and the operation that a stop names: they are announced by their counts, those before them are read, and they are not.
use Rattle.std.specs.Prelude.{ℕ, ◌<◌, ◌≡◌, List}
use Rattle.spec_patch.specs.Sizes.{set_patches, patch_operations}
use Rattle.spec_patch.specs.Edition.{Edition}
use Rattle.spec_patch.specs.Encode.{heading}
use Rattle.spec_patch.specs.Reader.{Fault, read, refused, Reader, pair, many, literal}
use Rattle.spec_patch.specs.Read.{read_count, read_envelope, read_operation, read_patch}
use Rattle.spec_explain.specs.ReadingRule.{Inside, outside, in_patch, in_operation}

-- the element of index i is the first of those behind a count that is not read
pub record FirstUnread {A B : Type 0} (head : Reader (A × ℕ)) (one : Reader B) (bs : List ℕ) (i : ℕ) : Type 0 where
  pub first : A
  pub count : ℕ
  pub behind : List ℕ
  pub headed : head bs ≡ read (first, count) behind
  pub announced : i < count
  pub earlier : List B
  pub rest : List ℕ
  pub before : many i one behind ≡ read earlier rest
  pub fault : Fault
  pub fails : one rest ≡ refused fault

module _ (ed : Edition) where
  -- the heading and the patch count, then patches
  abbrev pub PatchAt : List ℕ → ℕ → Type 0
  PatchAt set i = FirstUnread (pair (literal (heading ed)) (read_count set_patches)) (read_patch ed) set i

  -- the envelope and the operation count, then operations
  abbrev pub OperationAt : List ℕ → ℕ → Type 0
  OperationAt patch j = FirstUnread (pair read_envelope (read_count patch_operations)) (read_operation ed) patch j

  -- where the stop of a set is
  abbrev pub PlacedAt : List ℕ → Inside → Type 0
  PlacedAt set outside = Unit {0}
  PlacedAt set (in_patch i) = PatchAt set i
  PlacedAt set (in_operation i j) = (p : PatchAt set i) × OperationAt p.rest j

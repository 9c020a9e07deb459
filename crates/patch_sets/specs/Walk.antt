-- A walk over a set, as a client makes it: the heading, then each patch's head, then each of its operations.
use Rattle.std.specs.Prelude.{ℕ, List, ◌++◌, length}
use Rattle.spec_patch.specs.Sizes.{set_patches, patch_operations}
use Rattle.spec_patch.specs.Patch.{Envelope, Patch}
use Rattle.spec_patch.specs.Edition.{Edition}
use Rattle.spec_patch.specs.Encode.{u32, encode_envelope, heading}
use Rattle.spec_patch.specs.Reader.{Reader, mapped, pair, literal}
use Rattle.spec_patch.specs.Read.{read_count, read_envelope}

-- ---- what the calls read

-- the heading, then the patch count
unfoldable pub read_heading : Edition → Reader ℕ
read_heading ed = mapped (λ t. t.1) (pair (literal (heading ed)) (read_count set_patches))

-- a patch's head: its envelope, then its operation count
unfoldable pub read_head : Reader (Envelope × ℕ)
read_head = pair read_envelope (read_count patch_operations)

abbrev pub head_of : Patch → Envelope × ℕ
head_of p = (p.envelope, length p.operations)

-- ---- the bytes of each

unfoldable pub encode_heading : Edition → ℕ → List ℕ
encode_heading ed n = heading ed ++ u32 n

unfoldable pub encode_head : Envelope × ℕ → List ℕ
encode_head h = encode_envelope h.0 ++ u32 h.1

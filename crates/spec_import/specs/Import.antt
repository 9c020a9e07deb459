-- Bringing in a term list, 02, 'Job 1': lines of a key, a tab and a text become one patch of inserts, each placed last.
use Rattle.std.specs.Prelude.{ℕ, suc, Bool, true, ◌&&◌, leb, ltb, eqb, length, if◌then◌else◌}
use mathlib.Core.List.{List, [], ◌∷◌, ◌++◌, map, flat_map}
use Rattle.std.proofs.Math.Option.{Option, none, some}
use Rattle.spec_lists.specs.Lists.{is_empty}
use Rattle.spec_decimal.specs.Decimal.{decimal, read_decimal}
use Rattle.spec_listing.specs.Escapes.{tab, newline}
use Rattle.spec_listing.specs.Split.{prepend, split}
use Rattle.spec_patch.specs.Sizes.{set_bytes, patch_operations}
use Rattle.spec_patch.specs.TextRule.{few_bytes, allowed, few_characters}
use Rattle.spec_patch.specs.Patch.{text, Operation, insert, Envelope, Patch}
use Rattle.spec_patch.specs.Edition.{Edition}
use Rattle.spec_patch.specs.Encode.{encode}
use Rattle.spec_checks.specs.Findings.{findings}

-- what a line holds
pub record Term : Type 0 where
  pub key : ℕ
  pub words : List ℕ

-- why a list is not brought in
pub data ImportRefusal : Type 0 where
  other_form over_capacity patch_invalid output_too_short : ImportRefusal

-- 15 a line of another form, 12 a capacity, 11 what the patch checks find, 14 an output that is too short
unfoldable pub import_number : ImportRefusal → ℕ
import_number other_form = 15
import_number over_capacity = 12
import_number patch_invalid = 11
import_number output_too_short = 14

-- ---- lines

-- every newline ends a line, and bytes behind the last one are a line too
unfoldable pub lines : List ℕ → List (List ℕ)
lines [] = []
lines (b ∷ bs) = if eqb b newline then [] ∷ lines bs else prepend b (lines bs)

-- a key that is a u64 in decimal, and a text that RFC 3629 allows
unfoldable pub term_with : Option ℕ → List ℕ → Option Term
term_with none t = none
term_with (some k) t = if allowed true t then some (record { key = k; words = t }) else none

-- two fields; fewer or more are another form
unfoldable pub term_of_fields : List (List ℕ) → Option Term
term_of_fields [] = none
term_of_fields (k ∷ []) = none
term_of_fields (k ∷ t ∷ []) = term_with (read_decimal k) t
term_of_fields (k ∷ t ∷ more ∷ fields) = none

-- the fields of a line are parted by tabs
unfoldable pub read_term : List ℕ → Option Term
read_term line = term_of_fields (split tab line)

-- the text is within its bytes and its characters
unfoldable pub keeps_text : Term → Bool
keeps_text t = few_bytes t.words && few_characters true t.words

-- what the lines hold, or the fault of the first that has one
pub data Terms : Type 0 where
  terms : List Term → Terms
  faulty : ImportRefusal → Terms

-- a term before those of later lines
unfoldable pub also : Term → Terms → Terms
also t (terms ts) = terms (t ∷ ts)
also t (faulty r) = faulty r

-- a line after n others: 15, then 12 for its text or where the patch is full
unfoldable pub line_then : ℕ → Option Term → Terms → Terms
line_then n none rest = faulty other_form
line_then n (some t) rest = if keeps_text t && ltb n patch_operations then also t rest else faulty over_capacity

-- line by line, after n others
unfoldable pub read_terms : ℕ → List (List ℕ) → Terms
read_terms n [] = terms []
read_terms n (line ∷ rest) = line_then n (read_term line) (read_terms (suc n) rest)

-- ---- the patch

-- placed last: before no neighbour
unfoldable pub insert_of : ℕ → Term → Operation
insert_of collection t = insert collection t.key none (text t.words)

-- one insert for each line, in line order, under the envelope that is given
unfoldable pub patch_of : ℕ → Envelope → List Term → Patch
patch_of collection e ts = record { envelope = e; operations = map (insert_of collection) ts }

-- the set of that patch alone
abbrev pub set_of : ℕ → Envelope → List Term → List Patch
set_of collection e ts = patch_of collection e ts ∷ []

-- what bringing in gives
pub data Imported : Type 0 where
  imported : List ℕ → Imported
  refused : ImportRefusal → Imported

-- after the last line: 12 for the bytes of the set, then 11, then 14
unfoldable pub import_patch : Edition → Patch → ℕ → Imported
import_patch ed p room =
    if leb (length (encode ed (p ∷ []))) set_bytes then
    (if is_empty (findings (p ∷ [])).found then
    (if leb (length (encode ed (p ∷ []))) room then imported (encode ed (p ∷ [])) else refused output_too_short)
    else refused patch_invalid)
    else refused over_capacity

unfoldable pub after_lines : Edition → ℕ → Envelope → ℕ → Terms → Imported
after_lines ed collection e room (terms ts) = import_patch ed (patch_of collection e ts) room
after_lines ed collection e room (faulty r) = refused r

-- the canonical bytes of the one-patch set, into an output of so many places
unfoldable pub import_terms : Edition → ℕ → Envelope → List ℕ → ℕ → Imported
import_terms ed collection e list room = after_lines ed collection e room (read_terms 0 (lines list))

-- ---- the way back

-- a line of a term
unfoldable pub print_term : Term → List ℕ
print_term t = decimal t.key ++ (tab ∷ t.words ++ (newline ∷ []))

unfoldable pub print_terms : List Term → List ℕ
print_terms = flat_map print_term

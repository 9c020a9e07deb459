-- The commands of a replay script, one to a line, as bytes: the table `commands`, and the fields of each above it.
use Rattle.std.specs.Prelude.{ℕ, zero, suc, Bool, true, List, [], ◌∷◌, leb, eqb, length, if◌then◌else◌}
use Rattle.std.proofs.Math.Option.{Option, none, some, map}
use Rattle.spec_lists.specs.Lists.{equal_lists}
use Rattle.spec_decimal.specs.Decimal.{read_decimal}
use Rattle.spec_patch.specs.Sizes.{set_bytes}
use Rattle.spec_patch.specs.Patch.{Envelope}
use Rattle.spec_patch.specs.Edition.{Edition, v1, v2}
use Rattle.spec_session.specs.Session.{Limits, BindingPair}
use Rattle.spec_session.specs.Lifecycle.{Stimulus, activate, suspend, resume, close, no_op}
use Rattle.spec_session.specs.Batch.{BatchEnvelope}
use Rattle.spec_group.specs.Group.{GroupBatch}
pub use Rattle.spec_listing.specs.Ascii.{ascii}
use Rattle.spec_replay.specs.Lines.{space, split}
use Rattle.spec_replay.specs.Hex.{read_hex}

-- what a line asks for; `nothing` is a comment or an empty line, and `other` is any other line
pub data Command : Type 0 where
  nothing : Command
  session : (id : ℕ) → Limits → Command
  node : ℕ → Command
  binding : BindingPair → Command
  collection : ℕ → Command
  create : Command
  apply : Stimulus → (stimulus_bytes : ℕ) → Command
  batch : BatchEnvelope → (references : ℕ) → (set : List ℕ) → Command
  check : (set : List ℕ) → Command
  list : (set : List ℕ) → Command
  show : Command
  value_binding : (node slot : ℕ) → Command
  value_node : (node : ℕ) → Command
  value_entry : (collection key : ℕ) → Command
  senders : (count : ℕ) → Command
  wait : (sender : ℕ) → Command
  turn : Command
  edition : Edition → Command
  convert : (room : ℕ) → (set : List ℕ) → Command
  mark_binding : (node slot : ℕ) → Command
  mark_node : (node : ℕ) → Command
  mark_entry : (collection key : ℕ) → Command
  depends : (room : ℕ) → (set : List ℕ) → Command
  print : (collection room : ℕ) → Command
  group : List GroupBatch → (sets : List ℕ) → Command
  collection_length : (collection : ℕ) → Command
  page : (collection room : ℕ) → (keys : List ℕ) → Command
  import_list : (room collection : ℕ) → Envelope → (content : List ℕ) → Command
  explain_batch : BatchEnvelope → (references : ℕ) → (set : List ℕ) → Command
  other : Command

-- a line has at most 131,072 bytes without its LF
abbrev pub line_bytes : ℕ
line_bytes = 131072

-- the character # before a comment
abbrev pub comment_mark : ℕ
comment_mark = 35

-- ---- the fields behind a command's word

-- what the fields that are left ask for
abbrev pub Arguments : Type 0
Arguments = List (List ℕ) → Command

-- one field, and what follows with its value
abbrev pub Field : Type 0 → Type 0
Field A = (A → Arguments) → Arguments

infixl 10 ◌>>=◌
abbrev pub ◌>>=◌ : {A : Type 0} → Field A → (A → Arguments) → Arguments
field >>= next = field next

-- no field is left
unfoldable pub end : Command → Arguments
end c [] = c
end c (f ∷ fs) = other

-- a value that was read, or any other line
unfoldable pub given : {A : Type 0} → Option A → (A → Command) → Command
given none next = other
given (some a) next = next a

-- a field that is read so; a missing field is any other line
unfoldable pub read_by : {A : Type 0} → (List ℕ → Option A) → Field A
read_by read next [] = other
read_by read next (f ∷ fs) = given (read f) (λ a. next a fs)

-- a u64 in decimal, without sign or leading zeros
abbrev pub number_field : Field ℕ
number_field = read_by read_decimal

-- a number up to a bound
unfoldable pub at_most : ℕ → Option ℕ → Option ℕ
at_most bound none = none
at_most bound (some n) = if leb n bound then some n else none

-- a number that is a u32
abbrev pub slot_of : Option ℕ → Option ℕ
slot_of = at_most 4294967295

abbrev pub slot : Field ℕ
slot = read_by (λ f. slot_of (read_decimal f))

-- how much is lent: a number up to a bound
abbrev pub room_up_to : ℕ → Field ℕ
room_up_to bound = read_by (λ f. at_most bound (read_decimal f))

-- the edition of a number: 1 or 2
unfoldable pub numbered_edition : Option ℕ → Option Edition
numbered_edition none = none
numbered_edition (some n) = if eqb n 1 then some v1 else if eqb n 2 then some v2 else none

abbrev pub edition_field : Field Edition
edition_field = read_by (λ f. numbered_edition (read_decimal f))

-- a number, or - for none
unfoldable pub optional_number : List ℕ → Option (Option ℕ)
optional_number f = if equal_lists eqb (ascii "-") f then some none else map some (read_decimal f)

abbrev pub optional : Field (Option ℕ)
optional = read_by optional_number

-- bytes in lower-case hex
abbrev pub hex : Field (List ℕ)
hex = read_by read_hex

-- ---- words

-- a row of a table of words
pub record Row (A : Type 0) : Type 0 where
  pub word : List ℕ
  pub meaning : A

infix 8 ◌⇒◌
abbrev pub ◌⇒◌ : {A : Type 0} → List ℕ → A → Row A
w ⇒ a = record { word = w; meaning = a }

-- the meaning of the first row that has the word
unfoldable pub by_word : {A : Type 0} → List (Row A) → List ℕ → Option A
by_word [] w = none
by_word (r ∷ rows) w = if equal_lists eqb r.word w then some r.meaning else by_word rows w

-- ---- the table of commands

-- activate, suspend, resume, close, noop
unfoldable pub stimuli : List (Row Stimulus)
stimuli =
    (ascii "activate" ⇒ activate)
    ∷ (ascii "suspend" ⇒ suspend)
    ∷ (ascii "resume" ⇒ resume)
    ∷ (ascii "close" ⇒ close)
    ∷ (ascii "noop" ⇒ no_op)
    ∷ []

abbrev pub stimulus : Field Stimulus
stimulus = read_by (by_word stimuli)

-- session ID BYTES DIAGNOSTICS PATCHES REFERENCES
unfoldable pub session_arguments : Arguments
session_arguments = do
  id ← number_field
  bytes ← number_field
  diagnostics ← number_field
  patches ← number_field
  references ← number_field
  end (session id (record { stimulus_bytes = bytes; diagnostics = diagnostics; patches = patches; references = references }))

-- binding N SLOT
unfoldable pub binding_arguments : Arguments
binding_arguments = do
  n ← number_field
  s ← slot
  end (binding (record { node = n; slot = s }))

-- apply COMMAND BYTES
unfoldable pub apply_arguments : Arguments
apply_arguments = do
  s ← stimulus
  bytes ← number_field
  end (apply s bytes)

-- ID SEQUENCE PATCHES BYTES REFERENCES HEX, a batch that is sent or asked about
unfoldable pub batch_arguments : (BatchEnvelope → ℕ → List ℕ → Command) → Arguments
batch_arguments asks = do
  id ← number_field
  sequence ← number_field
  patches ← number_field
  bytes ← number_field
  references ← number_field
  set ← hex
  end (asks (record { session = id; sequence = sequence; patches = patches; stimulus_bytes = bytes }) references set)

-- convert ROOM HEX: as many bytes are lent as a set may have, and no more
unfoldable pub convert_arguments : Arguments
convert_arguments = do
  room ← room_up_to set_bytes
  set ← hex
  end (convert room set)

-- import ROOM COLLECTION ID STREAM DOCUMENT SURFACE PREVIOUS REVISION EPOCH SEQUENCE HEX
unfoldable pub import_arguments : Arguments
import_arguments = do
  room ← room_up_to set_bytes
  c ← number_field
  id ← number_field
  stream ← number_field
  document ← number_field
  surface ← optional
  previous ← number_field
  revision ← number_field
  epoch ← number_field
  sequence ← number_field
  content ← hex
  end (import_list room c (record { id = id; stream = stream; document = document; surface = surface; previous = previous; revision = revision; epoch = epoch; sequence = sequence }) content)

-- so many numbers can be lent to the call that tells what a set depends on
abbrev pub places_lent : ℕ
places_lent = 16384

-- depends ROOM HEX
unfoldable pub depends_arguments : Arguments
depends_arguments = do
  room ← room_up_to places_lent
  set ← hex
  end (depends room set)

-- so many bytes can be lent to a print
abbrev pub bytes_lent : ℕ
bytes_lent = 131072

-- print COLLECTION ROOM
unfoldable pub print_arguments : Arguments
print_arguments = do
  c ← number_field
  room ← room_up_to bytes_lent
  end (print c room)

-- ---- fields in any number

-- the bytes of one field, and what follows with its value
abbrev pub Single : Type 0 → Type 0
Single A = (A → Command) → List ℕ → Command

-- so many fields at most before the last one, which is left to what follows
unfoldable pub before_last : {A : Type 0} → ℕ → Single A → (List A → List ℕ → Command) → Arguments
before_last n one next [] = other
before_last n one next (f ∷ []) = next [] f
before_last zero one next (f ∷ g ∷ fs) = other
before_last (suc n) one next (f ∷ g ∷ fs) = one (λ a. before_last n one (λ xs. next (a ∷ xs)) (g ∷ fs)) f

-- the character , between the numbers of a batch
abbrev pub comma : ℕ
comma = 44

-- ID,SEQUENCE,PATCHES,BYTES,REFERENCES,EDITION,LENGTH
unfoldable pub member_parts : (GroupBatch → Command) → Arguments
member_parts next = do
  id ← number_field
  sequence ← number_field
  patches ← number_field
  bytes ← number_field
  references ← number_field
  ed ← edition_field
  len ← number_field
  end (next (record { edition = ed; envelope = record { session = id; sequence = sequence; patches = patches; stimulus_bytes = bytes }; references = references; bytes = len }))

unfoldable pub member_field : Single GroupBatch
member_field next f = member_parts next (split comma f)

-- so many batches can stand in a line
abbrev pub line_members : ℕ
line_members = 16

-- the batches and the sets in hex
unfoldable pub group_last : List GroupBatch → List ℕ → Command
group_last bs f = given (read_hex f) (group bs)

-- group [BATCH ...] HEX
unfoldable pub group_arguments : Arguments
group_arguments = before_last line_members member_field group_last

-- so many numbers at most, up to the end of the line
unfoldable pub up_to_end : ℕ → (List ℕ → Command) → Arguments
up_to_end n next [] = next []
up_to_end zero next (f ∷ fs) = other
up_to_end (suc n) next (f ∷ fs) = given (read_decimal f) (λ k. up_to_end n (λ ks. next (k ∷ ks)) fs)

-- so many places of an answer table can be lent to a page
abbrev pub places_of_page : ℕ
places_of_page = 128

-- so many keys can stand in a line
abbrev pub line_keys : ℕ
line_keys = 128

-- page COLLECTION ROOM [KEY ...]
unfoldable pub page_arguments : Arguments
page_arguments = do
  c ← number_field
  room ← room_up_to places_of_page
  up_to_end line_keys (page c room)

-- N SLOT, a binding that is asked for
unfoldable pub bound_arguments : (ℕ → ℕ → Command) → Arguments
bound_arguments asks = do
  n ← number_field
  s ← slot
  end (asks n s)

-- COLLECTION KEY, an entry that is asked for
unfoldable pub keyed_arguments : (ℕ → ℕ → Command) → Arguments
keyed_arguments asks = do
  c ← number_field
  k ← number_field
  end (asks c k)

-- value binding .. | value node N | value entry ..
unfoldable pub values : List (Row Arguments)
values =
    (ascii "binding" ⇒ bound_arguments value_binding)
    ∷ (ascii "node" ⇒ number_field (λ n. end (value_node n)))
    ∷ (ascii "entry" ⇒ keyed_arguments value_entry)
    ∷ []

-- mark binding .. | mark node N | mark entry ..
unfoldable pub marks : List (Row Arguments)
marks =
    (ascii "binding" ⇒ bound_arguments mark_binding)
    ∷ (ascii "node" ⇒ number_field (λ n. end (mark_node n)))
    ∷ (ascii "entry" ⇒ keyed_arguments mark_entry)
    ∷ []

unfoldable pub mark_arguments : Arguments
mark_arguments = read_by (by_word marks) (λ a. a)

unfoldable pub value_arguments : Arguments
value_arguments = read_by (by_word values) (λ a. a)

-- every command by its first word
unfoldable pub commands : List (Row Arguments)
commands =
    (ascii "session" ⇒ session_arguments)
    ∷ (ascii "node" ⇒ number_field (λ n. end (node n)))
    ∷ (ascii "binding" ⇒ binding_arguments)
    ∷ (ascii "collection" ⇒ number_field (λ n. end (collection n)))
    ∷ (ascii "create" ⇒ end create)
    ∷ (ascii "apply" ⇒ apply_arguments)
    ∷ (ascii "batch" ⇒ batch_arguments batch)
    ∷ (ascii "check" ⇒ hex (λ set. end (check set)))
    ∷ (ascii "list" ⇒ hex (λ set. end (list set)))
    ∷ (ascii "show" ⇒ end show)
    ∷ (ascii "value" ⇒ value_arguments)
    ∷ (ascii "senders" ⇒ number_field (λ n. end (senders n)))
    ∷ (ascii "wait" ⇒ number_field (λ n. end (wait n)))
    ∷ (ascii "turn" ⇒ end turn)
    ∷ (ascii "edition" ⇒ edition_field (λ ed. end (edition ed)))
    ∷ (ascii "convert" ⇒ convert_arguments)
    ∷ (ascii "mark" ⇒ mark_arguments)
    ∷ (ascii "depends" ⇒ depends_arguments)
    ∷ (ascii "print" ⇒ print_arguments)
    ∷ (ascii "group" ⇒ group_arguments)
    ∷ (ascii "length" ⇒ number_field (λ n. end (collection_length n)))
    ∷ (ascii "page" ⇒ page_arguments)
    ∷ (ascii "import" ⇒ import_arguments)
    ∷ (ascii "explain" ⇒ batch_arguments explain_batch)
    ∷ []

-- the fields of a line: a known word and its arguments
unfoldable pub fields_command : Arguments
fields_command = read_by (by_word commands) (λ a. a)

-- an empty line, or one whose first byte is #
unfoldable pub is_remark : List ℕ → Bool
is_remark [] = true
is_remark (b ∷ bs) = eqb b comment_mark

-- what a line without its LF asks for; a longer one is any other line
unfoldable pub command : List ℕ → Command
command line =
    if leb (length line) line_bytes then
    (if is_remark line then nothing else fields_command (split space line))
    else other

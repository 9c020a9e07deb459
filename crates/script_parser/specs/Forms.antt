-- The forms of commands, by number: so many numbers, a set behind them or none, and the command that they make.
use Rattle.std.specs.Prelude.{ℕ, zero, suc, ◌+◌, Bool, true, false, List, [], ◌∷◌, ltb, eqb, get_or, if◌then◌else◌}
use Rattle.std.proofs.Math.Option.{some}
use Rattle.spec_patch.specs.Sizes.{set_bytes}
use Rattle.spec_session.specs.Lifecycle.{Stimulus, activate, suspend, resume, close, no_op}
use Rattle.spec_session.specs.Batch.{BatchEnvelope}
use Rattle.spec_replay.specs.Script.{Command, session, node, binding, collection, create, apply, batch, check, list, show, value_binding, value_node, value_entry, mark_binding, mark_node, mark_entry, senders, wait, turn, edition, convert, depends, print, collection_length, explain_batch, other, places_lent, bytes_lent, group_arguments, page_arguments, import_arguments, Arguments, end, given, at_most, numbered_edition, hex}
use Rattle.script_parser.specs.Fields.{numbers, filled}

pub record Form : Type 0 where
  pub count : ℕ
  pub with_set : Bool
  pub makes : List ℕ → List ℕ → Command

-- behind the numbers of a form: the set, if it has one, and the end of the line
abbrev pub last_arguments : Form → List ℕ → Arguments
last_arguments f ns = if f.with_set then hex (λ set. end (f.makes ns set)) else end (f.makes ns [])

abbrev pub form_arguments : Form → Arguments
form_arguments f = numbers f.count (λ ns. last_arguments f (filled f.count ns))

-- the number at a place
abbrev pub number_in : List ℕ → ℕ → ℕ
number_in ns i = get_or ns i 0

-- a number up to a bound, or any other line
abbrev pub up_to : (bound n : ℕ) → (ℕ → Command) → Command
up_to bound n next = given (at_most bound (some n)) next

-- a number that is a slot, or any other line
abbrev pub with_slot : ℕ → (ℕ → Command) → Command
with_slot = up_to 4294967295

abbrev stimulus_form : Stimulus → Form
stimulus_form s = record { count = 1; with_set = false; makes = λ ns set. apply s (number_in ns 0) }

-- a batch that is sent or asked about
abbrev batch_form : (BatchEnvelope → ℕ → List ℕ → Command) → Form
batch_form asks = record { count = 5; with_set = true; makes = λ ns. asks (record { session = number_in ns 0; sequence = number_in ns 1; patches = number_in ns 2; stimulus_bytes = number_in ns 3 }) (number_in ns 4) }

-- no command
abbrev pub no_form : Form
no_form = record { count = 0; with_set = false; makes = λ ns set. other }

-- where the forms of apply's words, of value's, of mark's and of the first words begin, and a place that no form has
abbrev pub stimulus_base : ℕ
stimulus_base = 0

abbrev pub value_base : ℕ
value_base = 6

abbrev pub mark_base : ℕ
mark_base = 10

abbrev pub none_found : ℕ
none_found = 15

abbrev pub first_base : ℕ
first_base = 16

-- how many first words there are
abbrev pub first_words : ℕ
first_words = 24

-- a place for none stands behind them
abbrev pub form_count : ℕ
form_count = first_base + first_words + 1

-- ---- the table

pub record Numbered : Type 0 where
  pub number : ℕ
  pub form : Form

infix 8 ◌⇛◌
abbrev ◌⇛◌ : ℕ → Form → Numbered
n ⇛ f = record { number = n; form = f }

abbrev by_number : List Numbered → ℕ → Form
by_number [] k = no_form
by_number (r ∷ rows) k = if eqb k r.number then r.form else by_number rows k

-- stimuli, values and marks in the order of their tables
abbrev pub second_forms : List Numbered
second_forms =
    (0 ⇛ stimulus_form activate)
    ∷ (1 ⇛ stimulus_form suspend)
    ∷ (2 ⇛ stimulus_form resume)
    ∷ (3 ⇛ stimulus_form close)
    ∷ (4 ⇛ stimulus_form no_op)
    ∷ (6 ⇛ record { count = 2; with_set = false; makes = λ ns set. with_slot (number_in ns 1) (value_binding (number_in ns 0)) })
    ∷ (7 ⇛ record { count = 1; with_set = false; makes = λ ns set. value_node (number_in ns 0) })
    ∷ (8 ⇛ record { count = 2; with_set = false; makes = λ ns set. value_entry (number_in ns 0) (number_in ns 1) })
    ∷ (10 ⇛ record { count = 2; with_set = false; makes = λ ns set. with_slot (number_in ns 1) (mark_binding (number_in ns 0)) })
    ∷ (11 ⇛ record { count = 1; with_set = false; makes = λ ns set. mark_node (number_in ns 0) })
    ∷ (12 ⇛ record { count = 2; with_set = false; makes = λ ns set. mark_entry (number_in ns 0) (number_in ns 1) })
    ∷ []

-- first words in the order of `commands`
abbrev pub first_forms : List Numbered
first_forms =
    (16 ⇛ record { count = 5; with_set = false; makes = λ ns set. session (number_in ns 0) (record { stimulus_bytes = number_in ns 1; diagnostics = number_in ns 2; patches = number_in ns 3; references = number_in ns 4 }) })
    ∷ (17 ⇛ record { count = 1; with_set = false; makes = λ ns set. node (number_in ns 0) })
    ∷ (18 ⇛ record { count = 2; with_set = false; makes = λ ns set. with_slot (number_in ns 1) (λ s. binding (record { node = number_in ns 0; slot = s })) })
    ∷ (19 ⇛ record { count = 1; with_set = false; makes = λ ns set. collection (number_in ns 0) })
    ∷ (20 ⇛ record { count = 0; with_set = false; makes = λ ns set. create })
    ∷ (22 ⇛ batch_form batch)
    ∷ (23 ⇛ record { count = 0; with_set = true; makes = λ ns. check })
    ∷ (24 ⇛ record { count = 0; with_set = true; makes = λ ns. list })
    ∷ (25 ⇛ record { count = 0; with_set = false; makes = λ ns set. show })
    ∷ (27 ⇛ record { count = 1; with_set = false; makes = λ ns set. senders (number_in ns 0) })
    ∷ (28 ⇛ record { count = 1; with_set = false; makes = λ ns set. wait (number_in ns 0) })
    ∷ (29 ⇛ record { count = 0; with_set = false; makes = λ ns set. turn })
    ∷ (30 ⇛ record { count = 1; with_set = false; makes = λ ns set. given (numbered_edition (some (number_in ns 0))) edition })
    ∷ (31 ⇛ record { count = 1; with_set = true; makes = λ ns set. up_to set_bytes (number_in ns 0) (λ room. convert room set) })
    ∷ (33 ⇛ record { count = 1; with_set = true; makes = λ ns set. up_to places_lent (number_in ns 0) (λ room. depends room set) })
    ∷ (34 ⇛ record { count = 2; with_set = false; makes = λ ns set. up_to bytes_lent (number_in ns 1) (print (number_in ns 0)) })
    ∷ (36 ⇛ record { count = 1; with_set = false; makes = λ ns set. collection_length (number_in ns 0) })
    ∷ (39 ⇛ batch_form explain_batch)
    ∷ []

unfoldable pub form_at : ℕ → Form
form_at k = by_number (if ltb k first_base then second_forms else first_forms) k

-- the form of a group, behind whose word any number of fields stands
abbrev pub group_form : ℕ
group_form = 35

-- the form of a page, behind whose word there are keys
abbrev pub page_form : ℕ
page_form = 37

-- the form of bringing in a term list, which has more fields than others
abbrev pub import_form : ℕ
import_form = 38

-- what the fields behind the words of a form ask for
unfoldable pub asked_by : ℕ → Arguments
asked_by k = if eqb k group_form then group_arguments else if eqb k page_form then page_arguments else if eqb k import_form then import_arguments else form_arguments (form_at k)

-- how many numbers a form takes, and 16 more where it has a set
abbrev pub shape_of : Form → ℕ
shape_of f = f.count + (if f.with_set then 16 else 0)

-- the shapes of so many forms from a number on
abbrev pub shapes_from : ℕ → ℕ → List ℕ
shapes_from k zero = []
shapes_from k (suc n) = shape_of (form_at k) ∷ shapes_from (suc k) n

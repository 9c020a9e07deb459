-- The replay of a script: a set-up, the session of the latest creation, the turns of the latest senders, and what each line prints.
use Rattle.std.specs.Prelude.{ℕ, ◌+◌, List, [], ◌∷◌, ◌++◌, ltb, length, replicate, if◌then◌else◌}
use Rattle.std.proofs.Math.Option.{Option, none, some}
use Rattle.spec_lists.specs.Lists.{is_empty}
use Rattle.spec_patch.specs.Sizes.{anchors}
use Rattle.spec_patch.specs.Edition.{Edition, v1}
use Rattle.spec_patch.specs.Read.{read_set}
use Rattle.spec_projection.specs.Lookups.{binding_of, availability_of, entry_of, entry_count, binding_mark, availability_mark, entry_mark}
use Rattle.spec_session.specs.Session as sessions
use Rattle.spec_session.specs.Session.{Limits, BindingPair, Catalogue, Session, Creation, made, refused}
use Rattle.spec_session.specs.Lifecycle.{LifecycleStep, lifecycle_step}
use Rattle.spec_session.specs.Batch as batches
use Rattle.spec_session.specs.Batch.{BatchStep}
use Rattle.spec_conversion.specs.Conversion as conversions
use Rattle.spec_dependencies.specs.Answer.{dependencies_of}
use Rattle.spec_panel_print.specs.Print.{collection_print}
use Rattle.spec_page.specs.Page as pages
use Rattle.spec_import.specs.Import.{import_terms}
use Rattle.spec_explain.specs.Explain.{explain}
use Rattle.spec_group.specs.Group as groups
use Rattle.spec_group.specs.Group.{GroupStep}
use Rattle.spec_turns.specs.Turns as turns
use Rattle.spec_turns.specs.Turns.{Turns, SetUp, RegisterStep, TurnStep}
use Rattle.spec_listing.specs.Listing.{projection_lines, listing}
use Rattle.spec_replay.specs.Lines.{newline, split}
use Rattle.spec_replay.specs.Script.{Command, nothing, session, node, binding, collection, create, apply, batch, check, list, show, value_binding, value_node, value_entry, senders, wait, turn, edition, convert, mark_binding, mark_node, mark_entry, depends, print, group, collection_length, page, import_list, explain_batch, other, command}
use Rattle.spec_replay.specs.Answers.{creation_line, lifecycle_line, batch_line, check_lines, value_line, availability_answer_line, set_up_line, register_line, turn_line, conversion_line, mark_line, dependency_lines, print_lines, group_lines, length_line, page_lines, import_line, no_session_line, other_line}
use Rattle.spec_replay.specs.Reasons.{reason_line}

-- what a creation takes
pub record Setup : Type 0 where
  pub id : ℕ
  pub limits : Limits
  pub catalogue : Catalogue

pub record State : Type 0 where
  pub setup : Setup
  pub session : Option Session
  pub turns : Option Turns
  -- the edition of every set from here on
  pub edition : Edition

-- ---- the set-up

unfoldable pub no_anchors : Catalogue
no_anchors = record { nodes = []; bindings = []; collections = [] }

-- before the first line: id 0, limits 0, no anchors, no session, no senders, the first edition
unfoldable pub start : State
start = record {
  setup = record { id = 0; limits = record { stimulus_bytes = 0; diagnostics = 0; patches = 0; references = 0 }; catalogue = no_anchors };
  session = none;
  turns = none;
  edition = v1;
}

-- the first 129 of a kind are kept, so that 13 can be shown
abbrev pub kept_anchors : ℕ
kept_anchors = anchors + 1

unfoldable pub keep : {A : Type 0} → List A → A → List A
keep l a = if ltb (length l) kept_anchors then l ++ (a ∷ []) else l

-- a new set-up; all else stays
unfoldable pub with_setup : State → ℕ → Limits → Catalogue → State
with_setup s i l c = record { setup = record { id = i; limits = l; catalogue = c }; session = s.session; turns = s.turns; edition = s.edition }

-- the same set-up with other anchors
unfoldable pub with_anchors : State → Catalogue → State
with_anchors s c = with_setup s s.setup.id s.setup.limits c

unfoldable pub with_node : Catalogue → ℕ → Catalogue
with_node c n = record { nodes = keep c.nodes n; bindings = c.bindings; collections = c.collections }

unfoldable pub with_binding : Catalogue → BindingPair → Catalogue
with_binding c b = record { nodes = c.nodes; bindings = keep c.bindings b; collections = c.collections }

unfoldable pub with_collection : Catalogue → ℕ → Catalogue
with_collection c n = record { nodes = c.nodes; bindings = c.bindings; collections = keep c.collections n }

-- ---- one line

-- the state after a line and what it prints, or what is printed where the program stops
pub data Step : Type 0 where
  onward : State → (printed : List ℕ) → Step
  stops : (printed : List ℕ) → Step

unfoldable pub with_session : State → Option Session → State
with_session s x = record { setup = s.setup; session = x; turns = s.turns; edition = s.edition }

unfoldable pub with_turns : State → Turns → State
with_turns s t = record { setup = s.setup; session = s.session; turns = some t; edition = s.edition }

unfoldable pub with_edition : State → Edition → State
with_edition s ed = record { setup = s.setup; session = s.session; turns = s.turns; edition = ed }

-- a call of the session; without one, N
unfoldable pub asked : State → (Session → Step) → Step
asked s f = elim s.session [ none ↦ onward s no_session_line | some x ↦ f x ]

-- a call of the turns; without senders, N
unfoldable pub asked_turns : State → (Turns → Step) → Step
asked_turns s f = elim s.turns [ none ↦ onward s no_session_line | some t ↦ f t ]

-- 13 leaves no session, and not the earlier one either
unfoldable pub created : State → Creation → Step
created s (made x) = onward (with_session s (some x)) (creation_line (made x))
created s (refused r) = onward (with_session s none) (creation_line (refused r))

unfoldable pub applied : State → LifecycleStep → Step
applied s r = onward (with_session s (some r.next)) (lifecycle_line r.answer)

unfoldable pub batched : State → BatchStep → Step
batched s r = onward (with_session s (some r.next)) (batch_line r.answer)

unfoldable pub grouped : State → GroupStep → Step
grouped s r = onward (with_session s (some r.next)) (group_lines r.answer)

-- a new circle takes the place of the one before; 21 leaves that one as it was
unfoldable pub settled : State → SetUp → Step
settled s (turns.made t) = onward (with_turns s t) (set_up_line (turns.made t))
settled s (turns.refused r) = onward s (set_up_line (turns.refused r))

unfoldable pub registered : State → RegisterStep → Step
registered s r = onward (with_turns s r.next) (register_line r.answer)

unfoldable pub turned : State → TurnStep → Step
turned s r = onward (with_turns s r.next) (turn_line r.answer)

-- the line of a number, from 1
unfoldable pub replay_line : ℕ → State → Command → Step
replay_line n s nothing = onward s []
replay_line n s (session i l) = onward (with_setup s i l no_anchors) []
replay_line n s (node i) = onward (with_anchors s (with_node s.setup.catalogue i)) []
replay_line n s (binding b) = onward (with_anchors s (with_binding s.setup.catalogue b)) []
replay_line n s (collection i) = onward (with_anchors s (with_collection s.setup.catalogue i)) []
replay_line n s create = created s (sessions.create s.setup.id s.setup.limits s.setup.catalogue)
replay_line n s (apply u bytes) = asked s (λ x. applied s (lifecycle_step x u bytes))
replay_line n s (batch e references set) = asked s (λ x. batched s (batches.batch s.edition x e references set))
replay_line n s (check set) = onward s (check_lines (read_set s.edition set))
replay_line n s (list set) = onward s (listing s.edition set)
replay_line n s show = asked s (λ x. onward s (projection_lines x.projection))
replay_line n s (value_binding i slot) = asked s (λ x. onward s (value_line (binding_of x.projection i slot)))
replay_line n s (value_node i) = asked s (λ x. onward s (availability_answer_line (availability_of x.projection i)))
replay_line n s (value_entry c k) = asked s (λ x. onward s (value_line (entry_of x.projection c k)))
replay_line n s (senders k) = settled s (turns.set_up k)
replay_line n s (wait i) = asked_turns s (λ t. registered s (turns.register t i))
replay_line n s turn = asked s (λ x. asked_turns s (λ t. turned s (turns.turn t x.cursor)))
replay_line n s (edition ed) = onward (with_edition s ed) []
replay_line n s (convert room set) = onward s (conversion_line (conversions.convert s.edition set room))
replay_line n s (mark_binding i slot) = asked s (λ x. onward s (mark_line (binding_mark x.projection i slot)))
replay_line n s (mark_node i) = asked s (λ x. onward s (mark_line (availability_mark x.projection i)))
replay_line n s (mark_entry c k) = asked s (λ x. onward s (mark_line (entry_mark x.projection c k)))
replay_line n s (depends room set) = onward s (dependency_lines (dependencies_of s.edition set (replicate room 0)))
replay_line n s (print c room) = asked s (λ x. onward s (print_lines room (collection_print x.projection c)))
replay_line n s (group bs sets) = asked s (λ x. grouped s (groups.group x bs sets))
replay_line n s (collection_length c) = asked s (λ x. onward s (length_line (entry_count x.projection c)))
replay_line n s (page c room keys) = asked s (λ x. onward s (page_lines (length keys) (pages.page x.projection c keys (replicate room none))))
replay_line n s (import_list room c e content) = onward s (import_line (import_terms s.edition c e content room))
replay_line n s (explain_batch e references set) = asked s (λ x. onward s (reason_line (explain s.edition x e references set)))
replay_line n s other = stops (other_line n)

-- ---- the whole script

-- goes on with the state, unless stopped
abbrev pub then_replay : Step → (State → List ℕ) → List ℕ
then_replay (onward s printed) f = printed ++ f s
then_replay (stops printed) f = printed

-- the lines from a number on
unfoldable pub replay_lines : ℕ → State → List Command → List ℕ
replay_lines n s [] = []
replay_lines n s (c ∷ cs) = then_replay (replay_line n s c) (λ t. replay_lines (n + 1) t cs)

-- the parts that LF ends are lines; behind the last LF there is nothing, or any other line
unfoldable pub commands_of : List (List ℕ) → List Command
commands_of [] = []
commands_of (rest ∷ []) = if is_empty rest then [] else other ∷ []
commands_of (line ∷ part ∷ parts) = command line ∷ commands_of (part ∷ parts)

-- what is printed of a script from a line's number and a state on
unfoldable pub replay_from : ℕ → State → List ℕ → List ℕ
replay_from n s script = replay_lines n s (commands_of (split newline script))

-- what the program prints of its input
unfoldable pub replay : List ℕ → List ℕ
replay script = replay_from 1 start script

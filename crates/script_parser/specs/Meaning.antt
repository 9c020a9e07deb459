-- What a parsed line stands for in spec_replay. Hex is read from its place in the line; what is no hex makes any other line.
use Rattle.std.specs.Prelude as code
use Rattle.std.specs.Prelude.{ℕ, List, map, take, drop}
use Rattle.std.proofs.Math.Option.{Option, none, some}
use Rattle.spec_patch.specs.Edition as sets
use Rattle.projection_patch.specs.declared.patch.ProjectionPatchEdition.{ProjectionPatchEdition}
use Rattle.spec_session.specs.Batch.{BatchEnvelope}
use Rattle.spec_group.specs.Group.{GroupBatch}
use Rattle.spec_replay.specs.Script as script
use Rattle.spec_replay.specs.Lines.{space}
use Rattle.spec_replay.specs.Hex.{read_hex}
use Rattle.spec_replay.specs.Script.{Command, given}
use Rattle.projection_patch.specs.Meaning as patches
use Rattle.projection_patch.specs.Meaning.{edition_of}
use Rattle.script_parser.specs.Fields.{fields_after}
use Rattle.session_lifecycle.specs.Meaning.{limits_of, stimulus_of}
use Rattle.script_parser.specs.declared.BatchLine.{BatchLine}
use Rattle.script_parser.specs.declared.GroupMember.{GroupMember}
use Rattle.script_parser.specs.declared.SetupLine.{SetupLine}
use Rattle.script_parser.specs.declared.SetupLine.TheVariants.{Session, Node, Binding, Collection}
use Rattle.script_parser.specs.declared.CallLine.{CallLine}
use Rattle.script_parser.specs.declared.CallLine.TheVariants.{Create, Apply, Show, ValueBinding, ValueNode, ValueEntry, MarkBinding, MarkNode, MarkEntry, Senders, Wait, Turn, Edition, Print, Length}
use Rattle.script_parser.specs.declared.SetLine.{SetLine}
use Rattle.script_parser.specs.declared.SetLine.TheVariants.{Batch, Check, List as Listed, Convert, Depends, Import, Explain}
use Rattle.script_parser.specs.declared.ScriptCommand.{ScriptCommand}
use Rattle.script_parser.specs.declared.ScriptCommand.TheVariants.{Nothing, Setup, Call, WithSet, Group, Page, Other}

-- an edition, where a number names one
abbrev pub edition_read : code.Option ProjectionPatchEdition → Option sets.Edition
edition_read (code.Some e) = some (edition_of e)
edition_read code.None = none

abbrev pub script_envelope_of : BatchLine → BatchEnvelope
script_envelope_of b = record { session = b.session_id; sequence = b.sequence_no; patches = b.patch_count; stimulus_bytes = b.stimulus_bytes }

abbrev pub member_of : GroupMember → GroupBatch
member_of m = record { edition = edition_of m.edition; envelope = script_envelope_of m.batch; references = m.batch.target_references; bytes = m.bytes }

-- the batches in the first places
abbrev pub first_members : ℕ → List GroupMember → List GroupBatch
first_members count members = map member_of (take count members)

-- the bytes that hex spells from an index of the line on
abbrev pub set_from : List ℕ → ℕ → (List ℕ → Command) → Command
set_from line i next = given (read_hex (drop i line)) next

abbrev pub setup_of : SetupLine → Command
setup_of (Session id limits) = script.session id (limits_of limits)
setup_of (Node n) = script.node n
setup_of (Binding n s) = script.binding (record { node = n; slot = s })
setup_of (Collection n) = script.collection n

abbrev pub call_of : CallLine → Command
call_of Create = script.create
call_of (Apply t) = script.apply (stimulus_of t.stimulus) t.stimulus_bytes
call_of Show = script.show
call_of (ValueBinding n s) = script.value_binding n s
call_of (ValueNode n) = script.value_node n
call_of (ValueEntry c k) = script.value_entry c k
call_of (MarkBinding n s) = script.mark_binding n s
call_of (MarkNode n) = script.mark_node n
call_of (MarkEntry c k) = script.mark_entry c k
call_of (Senders n) = script.senders n
call_of (Wait s) = script.wait s
call_of Turn = script.turn
call_of (Edition ed) = script.edition (edition_of ed)
call_of (Print c room) = script.print c room
call_of (Length c) = script.collection_length c

abbrev pub with_set_of : SetLine → List ℕ → Command
with_set_of (Batch b) = script.batch (script_envelope_of b) b.target_references
with_set_of Check = script.check
with_set_of Listed = script.list
with_set_of (Convert room) = script.convert room
with_set_of (Depends room) = script.depends room
with_set_of (Import i) = script.import_list i.room i.collection (patches.envelope_of i.envelope)
with_set_of (Explain b) = script.explain_batch (script_envelope_of b) b.target_references

abbrev pub script_command_of : List ℕ → ScriptCommand → Command
script_command_of line Nothing = script.nothing
script_command_of line (Setup s) = setup_of s
script_command_of line (Call c) = call_of c
script_command_of line (WithSet s i) = set_from line i (with_set_of s)
script_command_of line (Group e) = script.group_arguments (fields_after space line e)
script_command_of line (Page e) = script.page_arguments (fields_after space line e)
script_command_of line Other = script.other

-- a command, or any other line
abbrev pub asked_of : List ℕ → code.Option ScriptCommand → Command
asked_of line (code.Some c) = script_command_of line c
asked_of line code.None = script.other

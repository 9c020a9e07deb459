-- `script_replay::call_lines::call` meets its contract: each call in its turn.
use mathlib.Core.Path.{sym, ap}
use Rattle.spec_replay.specs.Replay.{replay_line}
use Rattle.script_parser.specs.Meaning.{call_of}
use Rattle.script_replay.specs.LineLaws.{line_step}
use borrow.Author.Rules.{rules}
use Rattle.script_replay.proofs.call_lines.call.Goals as goal

pub returns-in-Create : goal.returns-in-Create
unfolding replay_line
returns-in-Create c = λ m h n. line_step n m _ _ (ap call_of (sym c.in-Create.is)) (c.create_latest.ensures m h)

pub returns-in-Apply : goal.returns-in-Apply
unfolding replay_line
returns-in-Apply c = λ m h n. line_step n m _ _ (ap call_of (sym c.in-Apply.is)) (c.apply.ensures m h)

pub returns-in-Show : goal.returns-in-Show
unfolding replay_line
returns-in-Show c = λ m h n. line_step n m _ _ (ap call_of (sym c.in-Show.is)) (c.show.ensures m h)

pub returns-in-ValueBinding : goal.returns-in-ValueBinding
unfolding replay_line
returns-in-ValueBinding c = λ m h n. line_step n m _ _ (ap call_of (sym c.in-ValueBinding.is)) (c.binding_value.ensures m h)

pub returns-in-ValueNode : goal.returns-in-ValueNode
unfolding replay_line
returns-in-ValueNode c = λ m h n. line_step n m _ _ (ap call_of (sym c.in-ValueNode.is)) (c.node_availability.ensures m h)

pub returns-in-ValueEntry : goal.returns-in-ValueEntry
unfolding replay_line
returns-in-ValueEntry c = λ m h n. line_step n m _ _ (ap call_of (sym c.in-ValueEntry.is)) (c.entry_value.ensures m h)

pub returns-in-MarkBinding : goal.returns-in-MarkBinding
unfolding replay_line
returns-in-MarkBinding c = λ m h n. line_step n m _ _ (ap call_of (sym c.in-MarkBinding.is)) (c.binding_mark.ensures m h)

pub returns-in-MarkNode : goal.returns-in-MarkNode
unfolding replay_line
returns-in-MarkNode c = λ m h n. line_step n m _ _ (ap call_of (sym c.in-MarkNode.is)) (c.availability_mark.ensures m h)

pub returns-in-MarkEntry : goal.returns-in-MarkEntry
unfolding replay_line
returns-in-MarkEntry c = λ m h n. line_step n m _ _ (ap call_of (sym c.in-MarkEntry.is)) (c.entry_mark.ensures m h)

pub returns-in-Senders : goal.returns-in-Senders
unfolding replay_line
returns-in-Senders c = λ m h n. line_step n m _ _ (ap call_of (sym c.in-Senders.is)) (c.set_up.ensures m h)

pub returns-in-Wait : goal.returns-in-Wait
unfolding replay_line
returns-in-Wait c = λ m h n. line_step n m _ _ (ap call_of (sym c.in-Wait.is)) (c.register.ensures m h)

pub returns-in-Turn : goal.returns-in-Turn
unfolding replay_line
returns-in-Turn c = λ m h n. line_step n m _ _ (ap call_of (sym c.in-Turn.is)) (c.turn.ensures m h)

pub returns-in-Edition : goal.returns-in-Edition
returns-in-Edition c =
    λ m h n. line_step n m _ _ (ap call_of (sym c.in-Edition.is)) (c.in_edition.ensures m h n c.args.out.now)

pub returns-in-Print : goal.returns-in-Print
unfolding replay_line
returns-in-Print c =
    λ m h n. line_step n m _ _ (ap call_of (sym c.in-Print.is)) (c.print_collection.ensures m h)

pub returns-in-Length : goal.returns-in-Length
unfolding replay_line
returns-in-Length c =
    λ m h n. line_step n m _ _ (ap call_of (sym c.in-Length.is)) (c.collection_length.ensures m h)

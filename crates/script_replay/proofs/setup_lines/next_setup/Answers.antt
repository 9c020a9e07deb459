-- `script_replay::setup_lines::next_setup` meets its contract: each line in its turn.
use mathlib.Core.Path.{sym, subst}
use Rattle.script_parser.specs.declared.SetupLine.{SetupLine}
use Rattle.script_calls.specs.SetsUp.{SetsUp}
use Rattle.script_replay.specs.SetupLines.{next_setup}
use borrow.Author.Rules.{rules}
use Rattle.script_replay.proofs.setup_lines.next_setup.Goals as goal

pub returns-in-Session : goal.returns-in-Session
returns-in-Session c = λ m s. subst (λ (l : SetupLine). SetsUp c.new.result (next_setup m l)) (sym c.in-Session.is) c.new.ensures

pub returns-in-Node : goal.returns-in-Node
returns-in-Node c = λ m s. subst (λ (l : SetupLine). SetsUp c.with_node.result (next_setup m l)) (sym c.in-Node.is) (c.with_node.ensures m s)

pub returns-in-Binding : goal.returns-in-Binding
returns-in-Binding c = λ m s. subst (λ (l : SetupLine). SetsUp c.with_binding.result (next_setup m l)) (sym c.in-Binding.is) (c.with_binding.ensures m s)

pub returns-in-Collection : goal.returns-in-Collection
returns-in-Collection c = λ m s. subst (λ (l : SetupLine). SetsUp c.with_collection.result (next_setup m l)) (sym c.in-Collection.is) (c.with_collection.ensures m s)

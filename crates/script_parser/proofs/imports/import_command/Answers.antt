-- `script_parser::imports::import_command` meets its contract: the numbers are those that are given.
use Rattle.spec_replay.specs.Script.{import_list}
use Rattle.projection_patch.specs.Meaning.{surface_of}
use Rattle.script_parser.specs.Forms.{number_in}
use Rattle.script_parser.specs.Meaning.{set_from}
use borrow.Author.Rules.{rules}
use Rattle.script_parser.proofs.imports.import_command.Goals as goal

pub returns : goal.returns
returns c =
    λ line i. set_from line c.args.from (import_list c.args.room (number_in c.args.front 0)
    (record {
      id = c.new.ensures i;
      stream = c.new-2.ensures i;
      document = c.new-3.ensures i;
      surface = surface_of c.args.surface;
      previous = c.new-4.ensures i;
      revision = c.new-5.ensures i;
      epoch = c.new-6.ensures i;
      sequence = c.new-7.ensures i;
    }))

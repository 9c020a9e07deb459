-- `script_replay::set_lines::use_set` meets its contract: each use in its turn, in the edition in force.
use mathlib.Core.Path.{sym, ap}
use Rattle.spec_patch.specs.Edition.{Edition}
use Rattle.spec_patch.specs.Read.{read_set}
use Rattle.spec_conversion.specs.Conversion.{convert}
use lib.ListN.{replicate}
use Rattle.spec_dependencies.specs.Answer.{dependencies_of}
use Rattle.spec_import.specs.Import.{import_terms}
use Rattle.spec_listing.specs.Listing.{listing}
use Rattle.spec_replay.specs.Answers.{check_lines, conversion_line, dependency_lines, import_line}
use Rattle.spec_replay.specs.Replay.{replay_line}
use Rattle.bytes_printer.proofs.PrintsLaws.{prints_same}
use Rattle.projection_patch.specs.Meaning.{envelope_of}
use Rattle.script_parser.specs.Meaning.{with_set_of}
use Rattle.script_parser.specs.declared.SetLine.{SetLine}
use Rattle.script_replay.specs.LineLaws.{line_step}
use borrow.Author.Rules.{rules}
use Rattle.script_replay.proofs.set_lines.use_set.Goals as goal

pub returns-in-Batch : goal.returns-in-Batch
returns-in-Batch c =
    λ m h n. line_step n m _ _ (ap (λ (w : SetLine). with_set_of w c.args.set.now) (sym c.in-Batch.is)) (c.apply_batch.ensures m h n)

pub returns-in-Check : goal.returns-in-Check
unfolding replay_line
returns-in-Check c =
    λ m h n. line_step n m _ _ (ap (λ (w : SetLine). with_set_of w c.args.set.now) (sym c.in-Check.is))
    (c.answered.ensures m h _ _ _ (prints_same (ap (λ (ed : Edition). check_lines (read_set ed c.args.set.now)) h.edition_is) c.print_checked-printed.ensures))

pub returns-in-List : goal.returns-in-List
unfolding replay_line
returns-in-List c =
    λ m h n. line_step n m _ _ (ap (λ (w : SetLine). with_set_of w c.args.set.now) (sym c.in-List.is))
    (c.answered-in-List.ensures m h _ _ _ (prints_same (ap (λ (ed : Edition). listing ed c.args.set.now) h.edition_is) c.print_listing-printed.ensures))

pub returns-in-Convert : goal.returns-in-Convert
unfolding replay_line
returns-in-Convert c =
    λ m h n. line_step n m _ _ (ap (λ (w : SetLine). with_set_of w c.args.set.now) (sym c.in-Convert.is))
    (c.answered-in-Convert.ensures m h _ _ _ (prints_same (ap (λ (ed : Edition). conversion_line (convert ed c.args.set.now c.in-Convert.room)) h.edition_is) c.convert_into-printed.ensures))

pub returns-in-Depends : goal.returns-in-Depends
unfolding replay_line
returns-in-Depends c =
    λ m h n. line_step n m _ _ (ap (λ (w : SetLine). with_set_of w c.args.set.now) (sym c.in-Depends.is))
    (c.answered-in-Depends.ensures m h _ _ _ (prints_same (ap (λ (ed : Edition). dependency_lines (dependencies_of ed c.args.set.now (replicate c.in-Depends.room 0))) h.edition_is) c.depends_into-printed.ensures))

pub returns-in-Import : goal.returns-in-Import
unfolding replay_line
returns-in-Import c =
    λ m h n. line_step n m _ _ (ap (λ (w : SetLine). with_set_of w c.args.set.now) (sym c.in-Import.is))
    (c.answered-in-Import.ensures m h _ _ _ (prints_same (ap (λ (ed : Edition). import_line (import_terms ed c.in-Import.line.collection (envelope_of c.in-Import.line.envelope) c.args.set.now c.in-Import.line.room)) h.edition_is) c.import_into-printed.ensures))

pub returns-in-Explain : goal.returns-in-Explain
returns-in-Explain c =
    λ m h n. line_step n m _ _ (ap (λ (w : SetLine). with_set_of w c.args.set.now) (sym c.in-Explain.is)) (c.explain_batch.ensures m h n)

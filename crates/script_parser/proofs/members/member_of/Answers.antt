-- `script_parser::members::member_of` meets its contract: the batch in the edition that is named, or any other line.
use Prim.Native.Nat.{ℕ}
use Rattle.std.specs.Prelude.{None}
use mathlib.Core.Path.{◌≡◌, sym, ap, ◌∙◌}
use mathlib.Core.List.{List}
use borrow.Author.Rules.{rules}
use Rattle.spec_patch.specs.Edition.{Edition}
use Rattle.spec_group.specs.Group.{GroupBatch}
use Rattle.spec_replay.specs.Script.{given}
use Rattle.script_parser.specs.Forms.{number_in}
use Rattle.script_parser.specs.Meaning.{edition_read}
use Rattle.script_parser.specs.Members.{member_then}
use Rattle.script_parser.proofs.members.member_of.Goals as goal

-- the batch in an edition
abbrev in_edition : List ℕ → Edition → GroupBatch
in_edition ns ed = record { edition = ed; envelope = record { session = number_in ns 0; sequence = number_in ns 1; patches = number_in ns 2; stimulus_bytes = number_in ns 3 }; references = number_in ns 4; bytes = number_in ns 6 }

pub returns-in_err-edition : goal.returns-in_err-edition
unfolding given
returns-in_err-edition c next =
    let gone : c.from_residual.result ≡ None = search rules in
    ap (λ x. member_then x next) gone ∙ ap (λ o. given o (λ ed. next (in_edition c.args.values ed))) (sym (ap edition_read c.in_err-edition.was) ∙ c.numbered_edition.ensures)

pub returns : goal.returns
unfolding given
returns c next =
    ap (λ o. given o (λ ed. next (in_edition c.args.values ed))) (sym (ap edition_read c.in_ok-edition.was) ∙ c.numbered_edition.ensures)

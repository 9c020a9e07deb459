-- `write_print` meets its contract: the part of the text up to the position is the print.
use Prim.Native.Nat.{ℕ, ◌-◌, ◌≤◌, ◌<◌}
use Rattle.std.specs.Prelude.{Some}
use mathlib.Core.Path.{◌≡◌, refl, sym, ap, ◌∙◌}
use native.Mathlib.Omega.{arith}
use lib.ListN.{length, take}
use lib.Seq.{length-take-le}
use borrow.Author.Rules.{rules}
use Rattle.panel_print.specs.declared.PrintRefusal.TheVariants.{OutputTooShort}
use Rattle.panel_print.specs.AnswersLaws.{some_end, ends_at, ends_in_text, whole_part, print_written, print_refused, behind_stays, all_stays}
use Rattle.panel_print.proofs.write_print.Goals as goal

pub returns-then-write_bytes_at : goal.returns-then-write_bytes_at
returns-then-write_bytes_at c =
    let ended : c.args.end ≡ Some c.in_ok-len.len = search rules in
    let within : c.in_ok-len.len ≤ length c.args.text.now = search rules in
    let same : c.in_ok-print.print.now ≡ take c.in_ok-len.len c.args.text.now = search rules in
    let room = sym c.write_bytes_at.ensures.value ∙ c.if-write_bytes_at.true in
    record {
      printed = λ print h. print_written c.args.out.now c.in_ok-print.print.now _ c.write_bytes_at.ensures.out_after room print (same ∙ whole_part h c.in_ok-len.len ended c.in_ok-len.len refl) c.in_ok-len.len (ends_at h c.in_ok-len.len ended);
      kept = behind_stays c.args.out.now c.in_ok-print.print.now _ c.write_bytes_at.ensures.out_after c.in_ok-len.len (ap length same ∙ length-take-le c.in_ok-len.len c.args.text.now within) room;
    }

pub returns-else-write_bytes_at : goal.returns-else-write_bytes_at
returns-else-write_bytes_at c =
    let ended : c.args.end ≡ Some c.in_ok-len.len = search rules in
    let same : c.in_ok-print.print.now ≡ take c.in_ok-len.len c.args.text.now = search rules in
    let full = sym c.write_bytes_at.ensures.value ∙ c.if-write_bytes_at.false in
    record {
      printed = λ print h. print_refused c.args.out.now c.in_ok-print.print.now _ c.write_bytes_at.ensures.out_after full print (same ∙ whole_part h c.in_ok-len.len ended c.in_ok-len.len refl);
      kept = all_stays c.args.out.now c.in_ok-print.print.now _ c.write_bytes_at.ensures.out_after full;
    }

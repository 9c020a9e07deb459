-- `listing_panel::write_lines` meets its contract: the part of the text up to the position is the lines.
use Prim.Native.Nat.{ℕ, ◌≤◌}
use Rattle.std.specs.Prelude.{Some}
use mathlib.Core.Path.{◌≡◌, refl, sym, ap, ◌∙◌}
use mathlib.Core.List.{List}
use native.Mathlib.Omega.{arith}
use lib.ListN.{length, take}
use lib.Seq.{length-take-le}
use borrow.Author.Rules.{rules}
use Rattle.bytes_wire.specs.Write.{has_room, overwrite}
use Rattle.listing_panel.specs.WrittenLaws.{ended_at, wrote_lines, refused_lines, kept_behind, kept_whole}
use Rattle.listing_panel.proofs.write_lines.Goals as goal

pub returns-then-write_bytes_at : goal.returns-then-write_bytes_at
returns-then-write_bytes_at c =
    let ended : c.args.end ≡ Some c.in_ok-len.len = search rules in
    let within : c.in_ok-len.len ≤ length c.args.text.now = search rules in
    let part : c.in_ok-lines.lines.now ≡ take c.in_ok-len.len c.args.text.now = search rules in
    let room = sym c.write_bytes_at.ensures.value ∙ c.if-write_bytes_at.true in
    record {
      lines = (λ lines h.
          let long = ended_at c.args.text.now c.args.end lines h c.in_ok-len.len ended in
          let same = part ∙ ap (λ (k : ℕ). take k c.args.text.now) long ∙ h.bytes in
          wrote_lines c.args.out.now lines _ c.in_ok-len.len long
          (c.write_bytes_at.ensures.out_after ∙ ap (overwrite c.args.out.now 0) same)
          (ap (λ (l : List ℕ). has_room c.args.out.now 0 (length l)) (sym same) ∙ room));
      kept = kept_behind c.args.out.now c.in_ok-lines.lines.now _ c.write_bytes_at.ensures.out_after c.in_ok-len.len (ap length part ∙ length-take-le c.in_ok-len.len c.args.text.now within) room;
    }

pub returns-else-write_bytes_at : goal.returns-else-write_bytes_at
returns-else-write_bytes_at c =
    let ended : c.args.end ≡ Some c.in_ok-len.len = search rules in
    let part : c.in_ok-lines.lines.now ≡ take c.in_ok-len.len c.args.text.now = search rules in
    let full = sym c.write_bytes_at.ensures.value ∙ c.if-write_bytes_at.false in
    record {
      lines = (λ lines h.
          let long = ended_at c.args.text.now c.args.end lines h c.in_ok-len.len ended in
          let same = part ∙ ap (λ (k : ℕ). take k c.args.text.now) long ∙ h.bytes in
          refused_lines c.args.out.now lines _ c.in_ok-len.len long
          (c.write_bytes_at.ensures.out_after ∙ ap (overwrite c.args.out.now 0) same)
          (ap (λ (l : List ℕ). has_room c.args.out.now 0 (length l)) (sym same) ∙ full));
      kept = kept_whole c.args.out.now c.in_ok-lines.lines.now _ c.write_bytes_at.ensures.out_after full;
    }

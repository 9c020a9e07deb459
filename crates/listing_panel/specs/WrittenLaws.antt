-- Lines that were printed are written whole, or not at all.
use Rattle.std.specs.Prelude.{ℕ, ◌+◌, ◌-◌, ◌≤◌, ◌≡◌, refl, Bool, true, false, List, length, take, drop, Result, Ok, Err, if◌then◌else◌, Option, Some, None}
use Rattle.std.proofs.Common.{sym, ap, ◌∙◌, arith, length-take}
use Rattle.bytes_wire.specs.Write.{has_room, overwrite}
use Rattle.bytes_wire.proofs.WriteLaws.{room_true, overwrite_refused, drop_past_overwrite}
use Rattle.bytes_printer.specs.Prints.{Prints}
use Rattle.bytes_printer.proofs.PrintsLaws.{whole_printed}
use Rattle.patch_part_writer.specs.declared.written.WriteRefusal.TheVariants.{OutputTooShort}
use Rattle.patch_part_writer.specs.declared.written.WriteRefusal.{WriteRefusal}
use Rattle.listing_panel.specs.Written.{HoldsLines, Writes}

-- lines that fit, printed from the start of a text, stand there
pub printed_holds : {before lines text : List ℕ} {end : Option ℕ} → Prints before (Some 0) lines text end → length lines ≤ length before → HoldsLines text end lines
printed_holds p h = let w = whole_printed p h in record { position = w.0; bytes = w.1 }

-- ---- by the position where printing ended

module _ (text : List ℕ) (end : Option ℕ) (lines : List ℕ) (h : HoldsLines text end lines) where
  pub has_ended : end ≡ None → ⊥
  has_ended e = let z : ◌≡◌ {A = ℕ} 0 1 = cc h.position in omega arith

  pub ended_at : (n : ℕ) → end ≡ Some n → n ≡ length lines
  ended_at n e = cc h.position

  pub within_text : (n : ℕ) → end ≡ Some n → n ≤ length text
  within_text n e = omega (arith, ended_at n e, ap length h.bytes, length-take (length lines) text)

  pub text_part : (n : ℕ) → end ≡ Some n → take (n - 0) (drop 0 text) ≡ lines
  text_part n e =
      let same : n - 0 ≡ length lines = omega (arith, ended_at n e) in
      ap (λ (k : ℕ). take k text) same ∙ h.bytes

-- ---- what was written

module _ (before lines after : List ℕ) (n : ℕ) (size : n ≡ length lines) (is : after ≡ overwrite before 0 lines) where
  pub wrote_lines : has_room before 0 (length lines) ≡ true → Writes before lines after (Ok n)
  wrote_lines room =
      let none_before : 0 + length lines ≡ length lines = omega arith in
      record { answer = ap Ok (size ∙ sym none_before) ∙ rw room; output = is }

  pub refused_lines : has_room before 0 (length lines) ≡ false → Writes before lines after (Err OutputTooShort)
  refused_lines full = record { answer = rw full; output = is }

module _ (before bytes after : List ℕ) (is : after ≡ overwrite before 0 bytes) where
  pub kept_behind : (n : ℕ) → length bytes ≡ n → has_room before 0 (length bytes) ≡ true → drop n after ≡ drop n before
  kept_behind n long room =
      let none_before : 0 + length bytes ≡ n = omega arith in
      ap (drop n) is ∙ rw (sym none_before) (drop_past_overwrite before 0 bytes (length bytes) refl room)

  pub kept_whole : has_room before 0 (length bytes) ≡ false → after ≡ before
  kept_whole full = is ∙ overwrite_refused before 0 bytes (length bytes) refl full

-- ---- what a caller has of lines that were written

module _ {before lines after : List ℕ} {r : Result ℕ WriteRefusal} (w : Writes before lines after r) where
  -- an answer counts bytes of the slice
  pub wrote_within : (n : ℕ) → r ≡ Ok n → n ≤ length before
  wrote_within n e = go (has_room before 0 (length lines)) refl (sym e ∙ w.answer)
    where
      go : (t : Bool) → has_room before 0 (length lines) ≡ t → Ok n ≡ (if t then Ok (0 + length lines) else Err OutputTooShort) → n ≤ length before
      go true room q = let same : n ≡ 0 + length lines = cc in omega (arith, room_true before 0 (length lines) room)
      go false full q = absurd (let z : ◌≡◌ {A = ℕ} 0 1 = cc in omega arith)

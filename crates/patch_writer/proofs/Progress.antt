-- Writing goes on: what is still to write, written from here, gives what the whole gives from the start.
use Prim.Native.Nat.{ℕ, ◌+◌, ◌≤◌}
use mathlib.Core.Path.{◌≡◌, refl, sym, ap, ◌∙◌}
use mathlib.Core.List.{List, [], ◌++◌, append-nil}
use native.Mathlib.Omega.{arith}
use lib.ListN.{length, take, drop, length-append, take-append-drop}
use Rattle.bytes_wire.specs.Write.{overwrite}
use Rattle.bytes_wire.proofs.WriteLaws.{has_room_lem, length_overwrite, overwrite_append, overwrite_in_place}

pub record Progress (start : List ℕ) (at : ℕ) (whole out : List ℕ) (next : ℕ) (rest : List ℕ) : Type 0 where
  pub same : overwrite out next rest ≡ overwrite start at whole
  pub room : next + length rest ≤ length out
  pub end : next + length rest ≡ at + length whole
  pub long : length out ≡ length start

pub progress_start : (start : List ℕ) (at : ℕ) (whole rest : List ℕ) → rest ≡ whole → at + length whole ≤ length start → Progress start at whole start at rest
progress_start start at whole rest e room = record {
  same = ap (overwrite start at) e;
  room = omega (arith, ap length e);
  end = ap (λ (l : List ℕ). at + length l) e;
  long = refl;
}

overwrite_nothing : (l : List ℕ) (at : ℕ) → at ≤ length l → overwrite l at [] ≡ l
overwrite_nothing l at h =
    let none : at + 0 ≡ at = omega arith in
    overwrite_in_place l at [] 0 refl (has_room_lem l at 0 (omega arith))
    ∙ ap (λ (a : List ℕ). a ++ drop (at + 0) l) (append-nil (take at l))
    ∙ ap (λ (n : ℕ). take at l ++ drop n l) none
    ∙ take-append-drop at l

-- the bytes a, of this size, are next, and b is left behind them
pub record Next (rest a b : List ℕ) (size : ℕ) : Type 0 where
  pub parted : rest ≡ a ++ b
  pub long : length a ≡ size

-- the size is told by an equal number
pub next_sized : {rest a b : List ℕ} {size : ℕ} → Next rest a b size → (told : ℕ) → told ≡ size → Next rest a b told
next_sized part told e = record { parted = part.parted; long = part.long ∙ sym e }

module _ {start : List ℕ} {at : ℕ} {whole out : List ℕ} {next : ℕ} {rest : List ℕ} (progress : Progress start at whole out next rest) where
  pub progress_end : rest ≡ [] → (out ≡ overwrite start at whole) × (next ≡ at + length whole)
  progress_end e =
      let here : next ≤ length out = omega (arith, progress.room) in
      (sym (overwrite_nothing out next here) ∙ ap (overwrite out next) (sym e) ∙ progress.same, omega (arith, progress.end, ap length e))

  module _ {a b : List ℕ} {size : ℕ} (part : Next rest a b size) where
    both : length rest ≡ size + length b
    both = ap length part.parted ∙ length-append a b ∙ ap (λ (n : ℕ). n + length b) part.long

    pub progress_fits : next + size ≤ length out
    progress_fits = omega (arith, progress.room, both)

    pub progress_next : (after : List ℕ) → after ≡ overwrite out next a → Progress start at whole after (next + size) b
    progress_next after is = record {
      same =
          ap (λ (o : List ℕ). overwrite o (next + size) b) is
          ∙ overwrite_append out next a b size part.long (omega (arith, progress.room, both))
          ∙ ap (overwrite out next) (sym part.parted)
          ∙ progress.same;
      room = omega (arith, progress.room, both, ap length is, length_overwrite out next a);
      end = omega (arith, progress.end, both);
      long = ap length is ∙ length_overwrite out next a ∙ progress.long;
    }

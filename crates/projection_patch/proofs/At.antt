-- Reading at a position of a list: what the code tests and reads there, as the readers of spec_patch have it.
use Prim.Native.Nat.{ℕ, ◌+◌, ◌-◌, ◌≤◌, ◌<◌}
use mathlib.Core.Path.{◌≡◌, refl, sym, ap, ◌∙◌}
use mathlib.Core.List.{List}
use Rattle.std.specs.Prelude as code
use mathlib.Core.Option.{none, some}
use native.Mathlib.Numerals.{add-one}
use native.Mathlib.Omega.{arith}
use lib.ListN.{length, get_or, drop, length-drop, drop_of_length-le}
use lib.Seq.{drop-cons, drop-drop}
use lib.Dec.{lit<}
use lib.IntN.{ℤ}
use Rattle.spec_patch.specs.Reader.{read, refused, malformed, byte, number}
use Rattle.spec_patch.specs.Read.{read_u32, read_u64, read_i64}
use Rattle.spec_lists.specs.Options.{optional_of}
use Rattle.bytes_wire.specs.Read.{first_number, first_signed}
use Rattle.bytes_wire.proofs.ReadLaws as wire
use Rattle.projection_patch.specs.declared.read_values.ProjectionPatchReadFault.{ProjectionPatchReadFault}
use Rattle.projection_patch.specs.declared.read_values.ProjectionPatchReadFault.TheVariants.{Malformed}

-- the position after the first k elements
pub position : (l : List ℕ) (k : ℕ) → k ≤ length l → length l - length (drop k l) ≡ k
position l k h = omega (arith, length-drop k l)

module _ (l : List ℕ) (at : ℕ) where
  pub byte_at : at < length l → byte (drop at l) ≡ read (get_or l at 0) (drop (at + 1) l)
  byte_at h = rw (drop-cons l at 0 h, ← add-one at)

  pub no_byte : length l ≤ at → byte (drop at l) ≡ refused malformed
  no_byte h = rw (drop_of_length-le l h)

  -- ---- one number

  pub record NumberAt (n x : ℕ) : Type 0 where
    pub room : at + n ≤ length l
    pub is : number n (drop at l) ≡ read x (drop (at + n) l)

  pub number_here : (n x : ℕ) → 0 < n → some x ≡ first_number n (drop at l) → NumberAt n x
  number_here n x more e =
      let w = wire.number_at l at n x (sym e) in
      record { room = omega (arith, w.room); is = rw (w.enough, w.number, drop-drop n at l) }

  pub number_missing : (n : ℕ) → none ≡ first_number n (drop at l) → number n (drop at l) ≡ refused malformed
  number_missing n e = rw (wire.short_at l at n (sym e)).too_few

  pub u64_at : (x : ℕ) (r : code.Option ℕ) → optional_of r ≡ first_number 8 (drop at l) → r ≡ code.Some x → NumberAt 8 x
  u64_at x r e f = number_here 8 x (lit< tt) (sym (ap optional_of f) ∙ e)

  pub u64_short : (r : code.Option ℕ) → optional_of r ≡ first_number 8 (drop at l) → r ≡ code.None → read_u64 (drop at l) ≡ refused malformed
  u64_short r e f = number_missing 8 (sym (ap optional_of f) ∙ e)

  pub u32_at : (x : ℕ) (r : code.Option ℕ) → optional_of r ≡ first_number 4 (drop at l) → r ≡ code.Some x → NumberAt 4 x
  u32_at x r e f = number_here 4 x (lit< tt) (sym (ap optional_of f) ∙ e)

  pub u32_short : (r : code.Option ℕ) → optional_of r ≡ first_number 4 (drop at l) → r ≡ code.None → read_u32 (drop at l) ≡ refused malformed
  u32_short r e f = number_missing 4 (sym (ap optional_of f) ∙ e)

  pub record IntegerAt (z : ℤ) : Type 0 where
    pub room : at + 8 ≤ length l
    pub is : read_i64 (drop at l) ≡ read z (drop (at + 8) l)

  pub i64_at : (z : ℤ) (r : code.Option ℤ) → optional_of r ≡ first_signed (drop at l) → r ≡ code.Some z → IntegerAt z
  i64_at z r e f =
      let w = wire.signed_at l at z (sym e ∙ ap optional_of f) in
      record { room = omega (arith, w.read.room); is = rw (w.read.enough, w.read.number, w.is, drop-drop 8 at l) }

  pub i64_short : (r : code.Option ℤ) → optional_of r ≡ first_signed (drop at l) → r ≡ code.None → read_i64 (drop at l) ≡ refused malformed
  i64_short r e f = rw (wire.signed_short_at l at (sym e ∙ ap optional_of f)).too_few

-- ---- what `ok_or` makes of a number that may not be there

module _ {A : Type 0} (r : code.Option A) where
  pub there : (x : A) → code.Ok x ≡ code.ok_or r Malformed → r ≡ code.Some x
  there x e = pick r e
    where
      pick : (s : code.Option A) → code.Ok x ≡ code.ok_or s Malformed → s ≡ code.Some x
      pick (code.Some y) q = ap code.Some (sym (cc q))
      pick code.None q = absurd (let z : ◌≡◌ {A = ℕ} 0 1 = cc q in omega arith)

  pub not_there : (f : ProjectionPatchReadFault) → code.Err f ≡ code.ok_or r Malformed → (r ≡ code.None) × (Malformed ≡ f)
  not_there f e = pick r e
    where
      pick : (s : code.Option A) → code.Err f ≡ code.ok_or s Malformed → (s ≡ code.None) × (Malformed ≡ f)
      pick (code.Some y) q = absurd (let z : ◌≡◌ {A = ℕ} 0 1 = cc q in omega arith)
      pick code.None q = (refl, sym (cc q))

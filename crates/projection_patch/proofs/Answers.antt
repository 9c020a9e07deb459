-- What a callee answered of a position, as the readers of spec_patch have it: an answer taken apart.
use Prim.Native.Nat.{ℕ, ◌+◌, ◌-◌, ◌≤◌, ◌<◌}
use mathlib.Core.Path.{◌≡◌, refl, sym, ap, ap₂, ◌∙◌}
use mathlib.Core.List.{List, [], ◌∷◌}
use native.Mathlib.Omega.{arith}
use lib.ListN.{length, drop, length-append}
use Rattle.std.specs.Prelude as code
use Rattle.std.specs.Result.{IsErrAnd}
use Rattle.std.proofs.lemmas.Result.{err_from_is_err_and}
use Rattle.spec_lists.specs.Bytes.{Bytes}
use Rattle.spec_patch.specs.Reader.{Fault, Result, read, refused, Reader, onward, followed, pair, byte}
use Rattle.spec_patch.specs.Read.{read_u64}
use Rattle.spec_patch.proofs.Codec.{Codec, never, onward_read, suffix, pair_codec}
use Rattle.spec_patch.proofs.ReadLaws.{u64_codec}
use Rattle.projection_patch.specs.ReadAnswers.{fault_to, answer, plain}
use Rattle.projection_patch.specs.declared.read_values.ProjectionPatchReadFault.{ProjectionPatchReadFault}

-- the reading behind an answer at a position: what was read, and that the bytes left are those from the next position on
pub record Got {A X : Type 0} (p : Reader A) (to : ℕ → A → X) (l : List ℕ) (at : ℕ) (x : X) (end : ℕ) : Type 0 where
  pub a : A
  pub is : p (drop at l) ≡ read a (drop end l)
  pub same : to end a ≡ x
  pub there : length l - length (drop end l) ≡ end

-- the fault behind a refusal
pub record NotGot {A : Type 0} (p : Reader A) (l : List ℕ) (at : ℕ) (f : ProjectionPatchReadFault) : Type 0 where
  pub fault : Fault
  pub is : p (drop at l) ≡ refused fault
  pub same : fault_to fault ≡ f

module _ {A X : Type 0} {e : A → List ℕ} {Good : A → Type 0} {p : Reader A} (to : ℕ → A → X) (codec : Codec e Good p) (l : List ℕ) (at : ℕ) (r : code.Result (X × ℕ) ProjectionPatchReadFault) (ensured : r ≡ answer to (length l) (p (drop at l))) where
  pub got : Bytes l → (x : X) (end : ℕ) → r ≡ code.Ok (x, end) → Got p to l at x end
  got h x end q = pick (p (drop at l)) refl (sym ensured ∙ q)
    where
      pick : (s : Result A) → p (drop at l) ≡ s → answer to (length l) s ≡ code.Ok (x, end) → Got p to l at x end
      pick (refused c) is t = absurd (let z : ◌≡◌ {A = ℕ} 0 1 = cc t in omega arith)
      pick (read a rest) is t =
          let both : ◌≡◌ {A = X × ℕ} (to (length l - length rest) a, length l - length rest) (x, end) = cc t in
          let here : length l - length rest ≡ end = ap (λ (z : X × ℕ). z.1) both in
          let what : to (length l - length rest) a ≡ x = ap (λ (z : X × ℕ). z.0) both in
          let left : drop end l ≡ rest = ap (λ (k : ℕ). drop k l) (sym here) ∙ suffix codec l at h a rest is in
          record {
            a = a;
            is = is ∙ ap (read a) (sym left);
            same = ap (λ (k : ℕ). to k a) (sym here) ∙ what;
            there = ap (λ (k : List ℕ). length l - length k) left ∙ here;
          }

  pub not_got : (f : ProjectionPatchReadFault) → r ≡ code.Err f → NotGot p l at f
  not_got f q = pick (p (drop at l)) refl (sym ensured ∙ q)
    where
      pick : (s : Result A) → p (drop at l) ≡ s → answer to (length l) s ≡ code.Err f → NotGot p l at f
      pick (refused c) is t = record { fault = c; is = is; same = cc t }
      pick (read a rest) is t = absurd (let z : ◌≡◌ {A = ℕ} 0 1 = cc t in omega arith)

-- a refusal that `?` hands on: the fault behind it
pub record HandedOn {A Y : Type 0} (p : Reader A) (l : List ℕ) (at : ℕ) (out : code.Result Y ProjectionPatchReadFault) : Type 0 where
  pub fault : Fault
  pub is : p (drop at l) ≡ refused fault
  pub told : out ≡ code.Err (fault_to fault)

hand_on : {A Y : Type 0} {p : Reader A} {l : List ℕ} {at : ℕ} {f : ProjectionPatchReadFault} {out : code.Result Y ProjectionPatchReadFault} → NotGot p l at f → IsErrAnd out (λ g. g ≡ f) → HandedOn p l at out
hand_on {out = out} g exit =
    let q = err_from_is_err_and out exit in
    record { fault = g.fault; is = g.is; told = q.1 ∙ ap code.Err (q.2 ∙ sym g.same) }

pub handed_on : {A X Y : Type 0} {e : A → List ℕ} {Good : A → Type 0} {p : Reader A} (to : ℕ → A → X) (codec : Codec e Good p) (l : List ℕ) (at : ℕ) (r : code.Result (X × ℕ) ProjectionPatchReadFault)
    → r ≡ answer to (length l) (p (drop at l)) → (f : ProjectionPatchReadFault) → r ≡ code.Err f → {out : code.Result Y ProjectionPatchReadFault} → IsErrAnd out (λ g. g ≡ f) → HandedOn p l at out
handed_on to codec l at r ensured f was exit = hand_on (not_got to codec l at r ensured f was) exit

-- what was read takes a byte or more, and ends within the part
module _ {A X : Type 0} {e : A → List ℕ} {Good : A → Type 0} {p : Reader A} {to : ℕ → A → X} (codec : Codec e Good p) (some' : (a : A) → 0 < length (e a)) {l : List ℕ} (all : Bytes l) where
  pub got_some : (x : X) (end : ℕ) → Got p to l 0 x end → (0 < end) × (end ≤ length l)
  got_some x end g =
      let long : length l ≡ length (e g.a) + length (drop end l) = ap length (codec.only all g.a (drop end l) g.is).1 ∙ length-append (e g.a) (drop end l) in
      (omega (arith, some' g.a, g.there), omega (arith, g.there))

-- the same of a value that is the same in the code
pub record GotPlain {A : Type 0} (p : Reader A) (l : List ℕ) (at : ℕ) (a : A) (end : ℕ) : Type 0 where
  pub is : p (drop at l) ≡ read a (drop end l)
  pub there : length l - length (drop end l) ≡ end

pub plain_got : {A : Type 0} {e : A → List ℕ} {Good : A → Type 0} {p : Reader A} (codec : Codec e Good p) (l : List ℕ) (at : ℕ) (r : code.Result (A × ℕ) ProjectionPatchReadFault)
    → r ≡ answer plain (length l) (p (drop at l)) → Bytes l → (a : A) (end : ℕ) → r ≡ code.Ok (a, end) → GotPlain p l at a end
plain_got codec l at r ensured h a end q =
    let g = got plain codec l at r ensured h a end q in
    record { is = g.is ∙ ap (λ b. read b (drop end l)) g.same; there = g.there }

-- what is missing of two numbers, whatever follows them
module _ {B : Type 0} (p : Reader B) {fault : Fault} where
  second_missing : (a : ℕ) (s : Result ℕ) → onward s (λ b rest. let t : ℕ × ℕ = (a, b) in read t rest) ≡ refused fault
      → onward (onward s (λ b. followed p (λ c rest. let t : ℕ × B = (b, c) in read t rest))) (λ t rest. let u : ℕ × (ℕ × B) = (a, t) in read u rest) ≡ refused fault
  second_missing a (refused c) e = cc e
  second_missing a (read b rest) e = never (sym e)

  missing : (s : Result ℕ) → onward s (λ a. followed read_u64 (λ b rest. let t : ℕ × ℕ = (a, b) in read t rest)) ≡ refused fault
      → onward s (λ a. followed (pair read_u64 p) (λ t rest. let u : ℕ × (ℕ × B) = (a, t) in read u rest)) ≡ refused fault
  missing (refused c) e = cc e
  missing (read a rest) e = second_missing a (read_u64 rest) e

-- two numbers, one behind the other
pub record GotNumbers (l : List ℕ) (at x y end : ℕ) : Type 0 where
  pub mid : List ℕ
  pub first : read_u64 (drop at l) ≡ read x mid
  pub second : read_u64 mid ≡ read y (drop end l)
  pub there : length l - length (drop end l) ≡ end

module _ (l : List ℕ) (at : ℕ) (r : code.Result ((ℕ × ℕ) × ℕ) ProjectionPatchReadFault) (ensured : r ≡ answer plain (length l) (pair read_u64 read_u64 (drop at l))) where
  pub numbers_got : Bytes l → (x y end : ℕ) → r ≡ code.Ok ((x, y), end) → GotNumbers l at x y end
  numbers_got h x y end q =
      let g = plain_got (pair_codec u64_codec u64_codec) l at r ensured h (x, y) end q in
      let one = onward_read (read_u64 (drop at l)) (λ a. followed read_u64 (λ b rest. read (a, b) rest)) (x, y) (drop end l) g.is in
      let two = onward_read (read_u64 one.mid) (λ b rest. read (one.a, b) rest) (x, y) (drop end l) one.next in
      let both : ◌≡◌ {A = ℕ × ℕ} (one.a, two.a) (x, y) = cc two.next in
      let left : two.mid ≡ drop end l = cc two.next in
      record {
        mid = one.mid;
        first = one.first ∙ ap (λ (a : ℕ). read a one.mid) (ap (λ (z : ℕ × ℕ). z.0) both);
        second = two.first ∙ ap₂ (λ (b : ℕ) (rest : List ℕ). read b rest) (ap (λ (z : ℕ × ℕ). z.1) both) left;
        there = g.there;
      }

  -- where they are missing, whatever follows them
  numbers_refused : (f : ProjectionPatchReadFault) → r ≡ code.Err f → {B : Type 0} (p : Reader B) → NotGot (pair read_u64 (pair read_u64 p)) l at f
  numbers_refused f q p =
      let g = not_got plain (pair_codec u64_codec u64_codec) l at r ensured f q in
      record { fault = g.fault; is = missing p (read_u64 (drop at l)) g.is; same = g.same }

  pub numbers_handed_on : {B Y : Type 0} (f : ProjectionPatchReadFault) → r ≡ code.Err f → (p : Reader B) → {out : code.Result Y ProjectionPatchReadFault} → IsErrAnd out (λ g. g ≡ f) → HandedOn (pair read_u64 (pair read_u64 p)) l at out
  numbers_handed_on f q p exit = hand_on (numbers_refused f q p) exit

-- one byte is followed by those behind it
pub behind_byte : (l : List ℕ) (b : ℕ) (rest : List ℕ) → byte l ≡ read b rest → rest ≡ drop 1 l
behind_byte [] b rest e = never e
behind_byte (x ∷ l) b rest e = sym (cc e)

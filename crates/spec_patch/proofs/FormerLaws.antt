-- Every text and every set that was accepted before characters were counted is accepted still, and read as the same list. What one reader reads
-- another reads alike: one law for each way of putting readers together.
use Prim.Native.Nat.{ℕ, zero, suc, ◌≤◌}
use Rattle.std.specs.Prelude.{◌≡◌, refl, Bool, leb, eqb, length, if◌then◌else◌}
use Rattle.std.proofs.Common.{sym, ◌∙◌, arith, le-leb, leb-true}
use Rattle.std.proofs.Math.Path.{ap}
use Rattle.std.proofs.Math.Bool.{true, false}
use mathlib.Core.List.{List, [], ◌∷◌}
use Rattle.spec_text.specs.Syntax.{is_utf8, characters}
use Rattle.spec_text.proofs.SyntaxLaws.{characters_few}
use Rattle.spec_patch.specs.Sizes.{set_bytes, set_patches, patch_operations, text_characters, text_bytes, former_text_bytes}
use Rattle.spec_patch.specs.Patch.{Value, quad, signed, text, unsigned, score, Patch}
use Rattle.spec_patch.specs.Edition.{Edition, has_kind}
use Rattle.spec_patch.specs.Encode.{heading}
use Rattle.spec_patch.specs.Fits.{FitsText}
use Rattle.spec_patch.specs.Reader.{malformed, over_capacity, Result, read, refused, Reader, Kept, followed, mapped, pair, checked, or_tag, no_tag, many, byte, bytes, literal}
use Rattle.spec_patch.specs.Read.{read_u32, read_score, read_u64, read_i64, within_capacity, read_count, read_counted, read_optional, read_quad, read_availability, read_text_by, read_text, value_after_with, value_after, in_edition, read_value_by, read_value, to_set_binding, to_set_availability, to_insert, to_update, to_remove, to_move, operation_after_with, operation_after, read_operation_by, read_operation, read_envelope, to_patch, read_patch, read_patches, patches, fault, ended, read_set}
use Rattle.spec_patch.proofs.Codec.{onward_read, if_read, bytes_long}
use Rattle.spec_patch.proofs.SetLaws.{no_patches}
use Rattle.spec_patch.specs.Former.{former_text, former_value, former_operation, former_patch, former_patches, former_set}

-- ---- what the first reader reads, the second reads alike

pub same : {A : Type 0} (p : Reader A) → Kept p p
same p = record { reads = λ bs a rest e. e }

module _ {A B : Type 0} {p q : Reader A} (first : Kept p q) where
  pub kept_followed : (f g : A → Reader B) → ((a : A) → Kept (f a) (g a)) → Kept (followed p f) (followed q g)
  kept_followed f g next = record {
    reads = λ bs b rest e.
        let t = onward_read (p bs) f b rest e in
        rw (first.reads bs t.a t.mid t.first) ((next t.a).reads t.mid b rest t.next);
  }

module _ {A B : Type 0} {p q : Reader A} (first : Kept p q) where
  pub kept_mapped : (f : A → B) → Kept (mapped f p) (mapped f q)
  kept_mapped f = kept_followed first (λ a rest. read (f a) rest) (λ a rest. read (f a) rest) (λ a. same (λ rest. read (f a) rest))

module _ {A B : Type 0} (p : Reader A) {q r : Reader B} (second : Kept q r) where
  kept_pair : Kept (pair p q) (pair p r)
  kept_pair =
      kept_followed (same p) (λ a. followed q (λ b rest. read (a, b) rest)) (λ a. followed r (λ b rest. read (a, b) rest))
      (λ a. kept_followed second (λ b rest. read (a, b) rest) (λ b rest. read (a, b) rest) (λ b. same (λ rest. read (a, b) rest)))

module _ {A : Type 0} where
  pub kept_tag : (k : ℕ) {p q : Reader A} {f g : ℕ → Reader A} → Kept p q → ((t : ℕ) → Kept (f t) (g t)) → (t : ℕ) → Kept (or_tag k p f t) (or_tag k q g t)
  kept_tag k {p} {q} {f} {g} here others t = record { reads = λ bs a rest e. go bs a rest (eqb t k) e }
    where
      go : (bs : List ℕ) (a : A) (rest : List ℕ) (b : Bool) → (if b then p bs else f t bs) ≡ read a rest → (if b then q bs else g t bs) ≡ read a rest
      go bs a rest true e = here.reads bs a rest e
      go bs a rest false e = (others t).reads bs a rest e

  pub kept_many : {p q : Reader A} → Kept p q → (n : ℕ) → Kept (many n p) (many n q)
  unfolding many
  kept_many h zero = same (λ bs. read [] bs)
  kept_many {p} {q} h (suc n) =
      kept_followed h (λ a. followed (many n p) (λ more rest. read (a ∷ more) rest)) (λ a. followed (many n q) (λ more rest. read (a ∷ more) rest))
      (λ a. kept_followed (kept_many h n) (λ more rest. read (a ∷ more) rest) (λ more rest. read (a ∷ more) rest) (λ more. same (λ rest. read (a ∷ more) rest)))

  kept_counted : (capacity : ℕ) {p q : Reader A} → Kept p q → Kept (read_counted capacity p) (read_counted capacity q)
  kept_counted capacity {p} {q} h = kept_followed (same (read_count capacity)) (λ n. many n p) (λ n. many n q) (kept_many h)

-- ---- texts

-- a text that was accepted is accepted still
pub former_fits : (t : List ℕ) → length t ≤ former_text_bytes → is_utf8 t ≡ true → FitsText t
former_fits t h u = record {
  short = omega arith;
  utf8 = u;
  few = le-leb (characters t) text_characters (omega (arith, characters_few t));
}

-- a length within the capacity that was
record Counted (n : ℕ) (bs mid : List ℕ) : Type 0 where
  number : read_u32 bs ≡ read n mid
  within : n ≤ former_text_bytes

counted : (n : ℕ) (bs mid : List ℕ) → read_count former_text_bytes bs ≡ read n mid → Counted n bs mid
counted n bs mid e =
    let t = onward_read (read_u32 bs) (λ x rest. if within_capacity former_text_bytes x then read x rest else refused over_capacity) n mid e in
    let d = if_read (within_capacity former_text_bytes t.a) (read t.a t.mid) over_capacity n mid t.next in
    let value : t.a ≡ n = cc d.result in
    record { number = t.first ∙ d.result; within = omega (arith, leb-true t.a former_text_bytes d.passed) }

record CheckedText (n : ℕ) (mid t rest : List ℕ) : Type 0 where
  taken : bytes n mid ≡ read t rest
  utf8 : is_utf8 t ≡ true

checked_text : (n : ℕ) (mid t rest : List ℕ) → checked is_utf8 malformed (bytes n) mid ≡ read t rest → CheckedText n mid t rest
checked_text n mid t rest e =
    let u = onward_read (bytes n mid) (λ x rest'. if is_utf8 x then read x rest' else refused malformed) t rest e in
    let d = if_read (is_utf8 u.a) (read u.a u.mid) malformed t rest u.next in
    let value : u.a ≡ t = cc d.result in
    record { taken = u.first ∙ d.result; utf8 = ap is_utf8 (sym value) ∙ d.passed }

kept_text : Kept former_text read_text
unfolding former_text read_text_by
kept_text = record {
  reads = λ bs t rest e.
      let u = onward_read (read_count former_text_bytes bs) (λ n. checked is_utf8 malformed (bytes n)) t rest e in
      let c = counted u.a bs u.mid u.first in
      let b = checked_text u.a u.mid t rest u.next in
      let long : length t ≡ u.a = bytes_long u.a u.mid t rest b.taken in
      let fits = former_fits t (omega (arith, c.within)) b.utf8 in
      rw (c.number, b.taken, le-leb (length t) text_bytes (omega (arith, c.within)), b.utf8, fits.few);
}

-- ---- values, operations, patches and sets

module _ (ed : Edition) where
  pub kept_edition : {f g : ℕ → Reader Value} → ((t : ℕ) → Kept (f t) (g t)) → (t : ℕ) → Kept (in_edition ed f t) (in_edition ed g t)
  unfolding in_edition
  kept_edition {f} {g} h t = record { reads = λ bs v rest e. go bs v rest (has_kind ed t) e }
    where
      go : (bs : List ℕ) (v : Value) (rest : List ℕ) (b : Bool) → (if b then f t bs else refused malformed) ≡ read v rest → (if b then g t bs else refused malformed) ≡ read v rest
      go bs v rest true e = (h t).reads bs v rest e
      go bs v rest false e = e

  kept_value : Kept (former_value ed) (read_value ed)
  unfolding former_value read_value_by value_after
  kept_value =
      kept_followed (same byte) (in_edition ed (value_after_with former_text)) (in_edition ed (value_after_with read_text))
      (kept_edition
      (kept_tag 1 (same (mapped quad read_quad))
      (kept_tag 2 (same (mapped signed read_i64))
      (kept_tag 3 (kept_mapped kept_text text)
      (kept_tag 4 (same (mapped unsigned read_u64))
      (kept_tag 5 (same (mapped score read_score)) (λ t. same (no_tag t))))))))

  kept_operation : Kept (former_operation ed) (read_operation ed)
  unfolding former_operation read_operation_by operation_after
  kept_operation =
      kept_followed (same byte) (operation_after_with (former_value ed)) (operation_after_with (read_value ed))
      (kept_tag 1 (kept_mapped (kept_pair read_u64 (kept_pair read_u32 kept_value)) to_set_binding)
      (kept_tag 2 (same (mapped to_set_availability (pair read_u64 read_availability)))
      (kept_tag 3 (kept_mapped (kept_pair read_u64 (kept_pair read_u64 (kept_pair read_optional kept_value))) to_insert)
      (kept_tag 4 (kept_mapped (kept_pair read_u64 (kept_pair read_u64 kept_value)) to_update)
      (kept_tag 5 (same (mapped to_remove (pair read_u64 read_u64)))
      (kept_tag 6 (same (mapped to_move (pair read_u64 (pair read_u64 read_optional)))) (λ t. same (no_tag t))))))))

  kept_patch : Kept (former_patch ed) (read_patch ed)
  unfolding former_patch read_patch
  kept_patch = kept_mapped (kept_pair read_envelope (kept_counted patch_operations kept_operation)) to_patch

  kept_patches : Kept (former_patches ed) (read_patches ed)
  unfolding former_patches read_patches
  kept_patches = kept_mapped (kept_pair (literal (heading ed)) (kept_counted set_patches kept_patch)) (λ t. t.1)

  -- every set that was accepted is accepted still, with the same list
  pub former_accepted : (bs : List ℕ) (ps : List Patch) → former_set ed bs ≡ patches ps → read_set ed bs ≡ patches ps
  unfolding former_set read_set ended
  former_accepted bs ps e = by_length (leb (length bs) set_bytes) e
    where
      by_result : (x : Result (List Patch)) → former_patches ed bs ≡ x → ended x ≡ patches ps → ended (read_patches ed bs) ≡ patches ps
      by_result (read qs []) is e = ap ended (kept_patches.reads bs qs [] is) ∙ e
      by_result (read qs (b ∷ rest)) is e = no_patches e
      by_result (refused f) is e = no_patches e

      by_length : (t : Bool) → (if t then ended (former_patches ed bs) else fault over_capacity) ≡ patches ps → (if t then ended (read_patches ed bs) else fault over_capacity) ≡ patches ps
      by_length true e = by_result (former_patches ed bs) refl e
      by_length false e = no_patches e

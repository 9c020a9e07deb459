-- A text of a length that was read, at a position.
use Prim.Native.Nat.{ℕ, ◌+◌, ◌-◌, ◌≤◌, ◌<◌}
use mathlib.Core.Path.{◌≡◌, refl, sym, ap, ◌∙◌}
use mathlib.Core.Bool.{Bool, true, false}
use mathlib.Core.List.{List, []}
use native.Mathlib.Omega.{arith}
use borrow.Author.Tests.{le-leb, lt-leb}
use lib.Dec.{leb}
use lib.ListN.{length, take, drop, length-drop}
use lib.Seq.{length-take-le, drop-drop}
use mathlib.Core.Logic.{◌⊎◌, inl, inr}
use Rattle.std.specs.Prelude as code
use Rattle.std.specs.Prelude.{Ok, Err, if◌then◌else◌}
use Rattle.std.specs.List.{slice_range}
use Rattle.std.specs.Option.{MatchOption, unwrap_or}
use Rattle.std.proofs.Common.{Bor}
use Rattle.spec_patch.specs.Sizes.{text_bytes}
use Rattle.spec_patch.specs.TextRule.{allowed, few_characters}
use Rattle.spec_patch.specs.Patch.{text}
use Rattle.spec_patch.specs.Reader.{read, refused, malformed, over_capacity, mapped}
use Rattle.spec_patch.specs.Read.{text_taken, text_body}
use Rattle.projection_patch.specs.TextRule.{judged, judgement}
use Rattle.projection_patch.specs.declared.text_rule.TextFault.{TextFault}
use Rattle.projection_patch.specs.declared.text_rule.TextFault.TheVariants.{Malformed, ManyCharacters}
use Rattle.projection_patch.specs.ReadAnswers.{text_fault, value_answer, lent_part}
use Rattle.projection_patch.specs.declared.patch.ProjectionPatchValue.TheVariants.{Text}
use Rattle.projection_patch.proofs.At.{position}

-- what a judgement says of a text, under the rule of one that is checked
module _ (t : List ℕ) where
  pub judged_fits : judgement t ≡ Ok tt → (allowed true t ≡ true) × (few_characters true t ≡ true)
  judged_fits e = pick (allowed true t) (few_characters true t) e
    where
      pick : (a b : Bool) → judged a b ≡ Ok tt → (a ≡ true) × (b ≡ true)
      pick true true q = (refl, refl)
      pick true false q = absurd (let z : ◌≡◌ {A = ℕ} 0 1 = cc q in omega arith)
      pick false b q = absurd (let z : ◌≡◌ {A = ℕ} 0 1 = cc q in omega arith)

  pub judged_malformed : judgement t ≡ Err Malformed → allowed true t ≡ false
  judged_malformed e = pick (allowed true t) (few_characters true t) e
    where
      pick : (a b : Bool) → judged a b ≡ Err Malformed → a ≡ false
      pick true true q = absurd (let z : ◌≡◌ {A = ℕ} 0 1 = cc q in omega arith)
      pick true false q = absurd (let z : ◌≡◌ {A = ℕ} 0 1 = cc q in omega arith)
      pick false b q = refl

  pub judged_many : judgement t ≡ Err ManyCharacters → (allowed true t ≡ true) × (few_characters true t ≡ false)
  judged_many e = pick (allowed true t) (few_characters true t) e
    where
      pick : (a b : Bool) → judged a b ≡ Err ManyCharacters → (a ≡ true) × (b ≡ false)
      pick true true q = absurd (let z : ◌≡◌ {A = ℕ} 0 1 = cc q in omega arith)
      pick true false q = (refl, refl)
      pick false b q = absurd (let z : ◌≡◌ {A = ℕ} 0 1 = cc q in omega arith)

module _ (check : Bool) (l : List ℕ) (start n : ℕ) where
  pub body_short : length l - start < n → text_body check n (drop start l) ≡ refused malformed
  body_short h = rw (lt-leb n (length (drop start l)) (omega (arith, length-drop start l)))

  module _ (room : n ≤ length l - start) where
    inside : n ≤ length (drop start l)
    inside = omega (arith, length-drop start l)

    -- as many bytes as the length names
    named : length (take n (drop start l)) ≡ n
    named = length-take-le n (drop start l) inside

    pub body_long : text_bytes < n → text_body check n (drop start l) ≡ refused over_capacity
    body_long over = rw (le-leb n (length (drop start l)) inside, lt-leb (length (take n (drop start l))) text_bytes (omega (arith, named)))

    module _ (few : n ≤ text_bytes) where
      taken : text_taken n (drop start l) ≡ read (take n (drop start l)) (drop n (drop start l))
      taken = rw (le-leb n (length (drop start l)) inside, le-leb (length (take n (drop start l))) text_bytes (omega (arith, named)))

      pub body_bad : allowed check (take n (drop start l)) ≡ false → text_body check n (drop start l) ≡ refused malformed
      body_bad u = rw (taken, u)

      pub body_many : (allowed check (take n (drop start l)) ≡ true) × (few_characters check (take n (drop start l)) ≡ false) → text_body check n (drop start l) ≡ refused over_capacity
      body_many u = rw (taken, u.0, u.1)

      -- the text's place, told by where it ends
      pub body_placed : start ≤ length l → (allowed check (take n (drop start l)) ≡ true) × (few_characters check (take n (drop start l)) ≡ true)
          → Ok (Text start n, start + n) ≡ value_answer (length l) (mapped text (text_body check n) (drop start l))
      body_placed h u =
          let end : start + n ≤ length l = omega arith in
          let back : start + n - n ≡ start = omega arith in
          rw (taken, u.0, u.1, drop-drop n start l, position l (start + n) end, named, back)

-- a text that breaks the rule
module _ (l : List ℕ) (start n : ℕ) (room : n ≤ length l - start) (few : n ≤ text_bytes) where
  pub body_refused : (f : TextFault) → judgement (take n (drop start l)) ≡ Err f → Err (text_fault f) ≡ value_answer (length l) (mapped text (text_body true n) (drop start l))
  body_refused Malformed e = rw (body_bad true l start n room few (judged_malformed (take n (drop start l)) e))
  body_refused ManyCharacters e = rw (body_many true l start n room few (judged_many (take n (drop start l)) e))

-- ---- a part that is lent

-- nothing stands between two indices that are not in order
pub none_between : (l : List ℕ) (a b : ℕ) → b < a → [] ≡ lent_part l a b
unfolding lent_part
none_between l a b h = pick (leb b (length l))
  where
    none : b - a ≡ 0
    none = omega arith

    pick : (t : Bool) → [] ≡ (if t then take (b - a) (drop a l) else [])
    pick true = rw none
    pick false = refl

pub none_past : (l : List ℕ) (a b : ℕ) → length l < b → [] ≡ lent_part l a b
unfolding lent_part
none_past l a b h = rw (lt-leb b (length l) h)

pub just_there : (l : List ℕ) (a b : ℕ) → b ≤ length l → take (b - a) (drop a l) ≡ lent_part l a b
unfolding lent_part
just_there l a b h = rw (le-leb b (length l) h)

-- the text of so many bytes from an index on, where they stand in the set
pub lent_text : (l : List ℕ) (start len : ℕ) → start + len ≤ length l → lent_part l start (start + len) ≡ take len (drop start l)
lent_text l start len h =
    let size : start + len - start ≡ len = omega arith in
    sym (just_there l start (start + len) h) ∙ ap (λ (n : ℕ). take n (drop start l)) size

-- what `get` lends of a set, or no bytes
module _ (l : List ℕ) (a b : ℕ) (other : Bor (List ℕ)) (empty : other.now ≡ []) where
  pub lent_by : (o : code.Option (Bor (List ℕ))) → MatchOption o ((b < a) ⊎ (length l < b)) (λ x. (a ≤ b) × (b ≤ length l) × (x.now ≡ slice_range l a b) × (length x.now + a ≡ b)) → (unwrap_or o other).now ≡ lent_part l a b
  lent_by code.None (inl h) = empty ∙ none_between l a b h
  lent_by code.None (inr h) = empty ∙ none_past l a b h
  lent_by (code.Some x) h = h.2 ∙ just_there l a b h.1

-- What holds of the check after i bytes of a text and with a count of characters: at the start, after one character more, after bytes below
-- 0x80 in a row, and at the end.
use Prim.Native.Nat.{ℕ, zero, suc, ◌+◌, ◌-◌, ◌≤◌, ◌<◌, zero-le}
use mathlib.Core.Path.{◌≡◌, refl, sym, ◌∙◌, subst}
use mathlib.Core.List.{List, []}
use native.Mathlib.Nat.{zero-add, add-zero, add_assoc, le_antisymm}
use native.Mathlib.Omega.{arith}
use lib.ListN.{length, get_or, take, drop, length-drop}
use lib.Seq.{drop-length, drop-drop, get_or-drop}
use Rattle.spec_lists.proofs.ListLaws.{lent_from_lem}
use Rattle.spec_text.specs.Syntax.{After, is_utf8, characters}
use Rattle.bytes_utf8.specs.Classes.{class_of, after_class}
use Rattle.bytes_utf8.specs.Characters.{length_after, character_length, AsciiBetween, Reached}
use Rattle.bytes_utf8.specs.Answer.{utf8_answer}
use Rattle.std.specs.Prelude.{Some, None}
use Rattle.bytes_utf8.proofs.CharacterLaws.{character_read, character_refused, character_ascii, character_at}

reached_start : (text : List ℕ) → Reached text 0 0
reached_start text = record { within = zero-le; few = zero-le; same_utf8 = refl; same_count = zero-add (characters text) }

-- ---- one character more

pub reached_character : {text : List ℕ} {count i : ℕ} (n : ℕ) → Reached text count i → n ≡ character_length (drop i text) → (n ≡ 0 → ⊥)
    → Reached text (count + 1) (i + n)
reached_character {text} {count} {i} n r e ne =
    let c = character_read (drop i text) n (sym e) ne in
    let fits : n ≤ length text - i = subst (λ (m : ℕ). n ≤ m) (length-drop i text) c.0 in
    record {
      within = omega (arith, r.within);
      few = omega (arith, r.few);
      same_utf8 = rw (← drop-drop n i text, ← c.1) r.same_utf8;
      same_count = rw (← drop-drop n i text, add_assoc, ← c.2) r.same_count;
    }

-- by the class of its first byte, and what follows in the part from there on
pub reached_sequence : {text : List ℕ} {count at : ℕ} (class : ℕ) (a : After) (n : ℕ) → Reached text count at → at < length text → get_or text at 0 < 256
    → class ≡ class_of (get_or text at 0) → after_class class ≡ a → n ≡ length_after a (drop 1 (take (length text - at) (drop at text))) → (n ≡ 0 → ⊥)
    → Reached text (count + 1) (at + n)
reached_sequence {text} {count} {at} class a n r h l e f g ne =
    let same : n ≡ length_after a (drop 1 (drop at text)) = rw lent_from_lem at g in
    reached_character n r (same ∙ sym (character_at text at class h l e ∙ rw f)) ne

-- ---- bytes below 0x80

reached_ascii_by : {text : List ℕ} {count i : ℕ} (n : ℕ) → Reached text count i → i + n ≤ length text
    → ((k : ℕ) → k < n → get_or text (i + k) 0 < 0x80) → Reached text (count + n) (i + n)
reached_ascii_by {text} {count} {i} zero r h a = rw (add-zero count, add-zero i) r
reached_ascii_by {text} {count} {i} (suc n) r h a =
    let s = reached_ascii_by n r (omega arith) (λ k l. a k (omega arith)) in
    let first : get_or (drop (i + n) text) 0 0 < 0x80 = rw (get_or-drop (i + n) text 0 0, add-zero) (a n (omega arith)) in
    let one : character_length (drop (i + n) text) ≡ 1 = character_ascii (drop (i + n) text) (rw (length-drop (i + n) text) (omega arith)) first in
    let t : Reached text (count + n + 1) (i + n + 1) = reached_character 1 s (sym one) (λ e. omega arith) in
    let c : count + n + 1 ≡ count + suc n = omega arith in
    let j : i + n + 1 ≡ i + suc n = omega arith in
    rw (← c, ← j) t

pub reached_ascii : {text : List ℕ} {count i to : ℕ} → Reached text count i → AsciiBetween text i to → Reached text (count + (to - i)) to
reached_ascii {text} {count} {i} {to} r a =
    let n : i + (to - i) ≡ to = omega (arith, a.ascends) in
    subst (λ (j : ℕ). Reached text (count + (to - i)) j) n
    (reached_ascii_by (to - i) r (omega (arith, a.within)) (λ k h. a.ascii (i + k) (omega arith) (omega arith)))

-- such bytes at the start
pub reached_front : {text : List ℕ} {to : ℕ} → AsciiBetween text 0 to → Reached text to to
reached_front {text} {to} a =
    let n : 0 + (to - 0) ≡ to = omega arith in
    subst (λ (j : ℕ). Reached text j to) n (reached_ascii (reached_start text) a)

-- ---- the end

pub reached_end : {text : List ℕ} {count i : ℕ} → Reached text count i → length text ≤ i → utf8_answer text ≡ Some count
reached_end {text} {count} {i} r h =
    let e : i ≡ length text = le_antisymm r.within h in
    let done : drop i text ≡ [] = rw e (drop-length text) in
    let u : _ ≡ is_utf8 text = rw done at r.same_utf8 in
    let n : count + 0 ≡ characters text = rw done at r.same_count in
    rw (← u, ← n, add-zero)

pub reached_refused : {text : List ℕ} {count i : ℕ} → Reached text count i → i < length text → 0 ≡ character_length (drop i text)
    → utf8_answer text ≡ None
reached_refused {text} {count} {i} r h e =
    let f = character_refused (drop i text) (rw (length-drop i text) (omega arith)) (sym e) in
    rw (sym r.same_utf8 ∙ f)

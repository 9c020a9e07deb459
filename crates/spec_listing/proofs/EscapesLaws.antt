-- An escaped text reads back, holds no byte that ends a field or a line, and is at most twice as long.
use Rattle.std.specs.Prelude.{ℕ, ◌*◌, ◌≤◌, ◌≡◌, refl, false, eqb, length}
use Rattle.std.proofs.Common.{sym, ap, ◌∙◌, arith, length-append, eqb-true}
use mathlib.Core.List.{List, [], ◌∷◌, ◌++◌, flat_map}
use Rattle.std.proofs.Math.Option.{some, some-injective}
use Rattle.spec_lists.proofs.ListLaws.{test_cases}
use Rattle.spec_listing.specs.Escapes.{tab, newline, carriage_return, backslash, escaped_byte, escaped, Plain, byte_of, unescaped}
use Rattle.spec_listing.specs.Split.{cons}
use Rattle.spec_listing.proofs.SplitLaws.{lacks_append}

-- what holds of the four escaped bytes and of any other byte, as printed, holds of every byte
byte_cases : (P : ℕ → List ℕ → Type 0)
    → P backslash (escaped_byte backslash) → P tab (escaped_byte tab) → P newline (escaped_byte newline) → P carriage_return (escaped_byte carriage_return)
    → ((b : ℕ) → eqb b backslash ≡ false → eqb b tab ≡ false → eqb b newline ≡ false → eqb b carriage_return ≡ false → P b (b ∷ []))
    → (b : ℕ) → P b (escaped_byte b)
unfolding escaped_byte
byte_cases P hb ht hn hr other b =
    test_cases (eqb b backslash) (λ e. rw (eqb-true b backslash e) hb)
    (λ e₁. test_cases (eqb b tab) (λ e. rw (eqb-true b tab e) ht)
    (λ e₂. test_cases (eqb b newline) (λ e. rw (eqb-true b newline e) hn)
    (λ e₃. test_cases (eqb b carriage_return) (λ e. rw (eqb-true b carriage_return e) hr)
    (λ e₄. rw (e₁, e₂, e₃, e₄) (other b e₁ e₂ e₃ e₄)))))

-- ---- read back

unescaped_plain : (b : ℕ) (bs : List ℕ) → eqb b backslash ≡ false → unescaped (b ∷ bs) ≡ cons (some b) (unescaped bs)
unfolding unescaped cons
unescaped_plain b [] e = rw e
unescaped_plain b (c ∷ bs) e = rw e

unescaped_byte : (bs : List ℕ) (b : ℕ) → unescaped (escaped_byte b ++ bs) ≡ cons (some b) (unescaped bs)
unfolding unescaped escaped_byte byte_of
unescaped_byte bs =
    byte_cases (λ b l. unescaped (l ++ bs) ≡ cons (some b) (unescaped bs)) refl refl refl refl (λ b e₁ e₂ e₃ e₄. unescaped_plain b bs e₁)

-- what is printed reads back
pub unescaped_escaped : (t : List ℕ) → unescaped (escaped t) ≡ some t
unfolding unescaped escaped flat_map cons
unescaped_escaped [] = refl
unescaped_escaped (b ∷ t) = unescaped_byte (escaped t) b ∙ ap (cons (some b)) (unescaped_escaped t)

-- two texts that print alike are equal
pub escaped_injective : (s t : List ℕ) → escaped s ≡ escaped t → s ≡ t
escaped_injective s t e = some-injective s t (sym (unescaped_escaped s) ∙ ap unescaped e ∙ unescaped_escaped t)

-- ---- no tab, no newline, no carriage return

pub plain_append : (a b : List ℕ) → Plain a → Plain b → Plain (a ++ b)
plain_append a b p q = record {
  no_tab = lacks_append tab a b p.no_tab q.no_tab;
  no_newline = lacks_append newline a b p.no_newline q.no_newline;
  no_return = lacks_append carriage_return a b p.no_return q.no_return;
}

plain_byte : (b : ℕ) → Plain (escaped_byte b)
unfolding escaped_byte
plain_byte = byte_cases (λ b l. Plain l)
    (record { no_tab = refl; no_newline = refl; no_return = refl })
    (record { no_tab = refl; no_newline = refl; no_return = refl })
    (record { no_tab = refl; no_newline = refl; no_return = refl })
    (record { no_tab = refl; no_newline = refl; no_return = refl })
    (λ b e₁ e₂ e₃ e₄. record { no_tab = rw e₂; no_newline = rw e₃; no_return = rw e₄ })

-- nothing that is printed of a text ends its field or its line
pub escaped_plain : (t : List ℕ) → Plain (escaped t)
unfolding escaped flat_map
escaped_plain [] = record { no_tab = refl; no_newline = refl; no_return = refl }
escaped_plain (b ∷ t) = plain_append (escaped_byte b) (escaped t) (plain_byte b) (escaped_plain t)

-- ---- how long

-- one byte or two
escaped_byte_length : (b : ℕ) → (1 ≤ length (escaped_byte b)) × (length (escaped_byte b) ≤ 2)
unfolding escaped_byte
escaped_byte_length =
    byte_cases (λ b l. (1 ≤ length l) × (length l ≤ 2)) (omega arith, omega arith) (omega arith, omega arith) (omega arith, omega arith) (omega arith, omega arith)
    (λ b e₁ e₂ e₃ e₄. (omega arith, omega arith))

pub escaped_length : (t : List ℕ) → (length t ≤ length (escaped t)) × (length (escaped t) ≤ 2 * length t)
unfolding escaped flat_map
escaped_length [] = (omega arith, omega arith)
escaped_length (b ∷ t) =
    let first = escaped_byte_length b in
    let rest = escaped_length t in
    rw (length-append (escaped_byte b) (escaped t)) (omega arith, omega arith)

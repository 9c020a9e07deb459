-- The octets of a scalar value match a sequence of the syntax, and octets that match one are those of a scalar value.
use Rattle.std.specs.Prelude.{ℕ, ◌+◌, ◌-◌, ◌*◌, ◌/◌, ◌%◌, ◌≤◌, ◌<◌, ◌≡◌, ◌⊎◌, List, [], ◌∷◌, get_or}
use Rattle.std.proofs.Common.{inl, inr, ⊎_elim, arith, lt-ltb, le-ltb}
use Rattle.std.proofs.Math.Decide.{dec_lt}
use Rattle.spec_text.specs.Scalars.{Scalar, encode_scalar}
use Rattle.spec_text.specs.Syntax.{Range, sequences}
use Rattle.spec_text.proofs.SequenceLaws.{Matches, AnyMatches, any_at}

-- ---- the four rows of section 3's table

octets_1 : (c : ℕ) → c < 0x80 → encode_scalar c ≡ c ∷ []
unfolding encode_scalar
octets_1 c h = rw (lt-ltb c 0x80 h)

octets_2 : (c : ℕ) → 0x80 ≤ c → c < 0x800 → encode_scalar c ≡ (0xc0 + c / 0x40) ∷ (0x80 + c % 0x40) ∷ []
unfolding encode_scalar
octets_2 c l h = rw (le-ltb c 0x80 l, lt-ltb c 0x800 h)

octets_3 : (c : ℕ) → 0x800 ≤ c → c < 0x10000
    → encode_scalar c ≡ (0xe0 + c / 0x1000) ∷ (0x80 + c / 0x40 % 0x40) ∷ (0x80 + c % 0x40) ∷ []
unfolding encode_scalar
octets_3 c l h = rw (le-ltb c 0x80 (omega arith), le-ltb c 0x800 l, lt-ltb c 0x10000 h)

octets_4 : (c : ℕ) → 0x10000 ≤ c
    → encode_scalar c ≡ (0xf0 + c / 0x40000) ∷ (0x80 + c / 0x1000 % 0x40) ∷ (0x80 + c / 0x40 % 0x40) ∷ (0x80 + c % 0x40) ∷ []
unfolding encode_scalar
octets_4 c l = rw (le-ltb c 0x80 (omega arith), le-ltb c 0x800 (omega arith), le-ltb c 0x10000 l)

-- ---- a scalar value's octets match the sequence of the interval that it lies in: the k-th

below_or : (a b : ℕ) → (a < b) ⊎ (b ≤ a)
below_or a b = go (dec_lt a b)
  where
    go : Dec (a < b) → (a < b) ⊎ (b ≤ a)
    go (yes h) = inl h
    go (no h) = inr (omega arith)

in_row : (c k : ℕ) {b : ℕ} {xs : List ℕ} → encode_scalar c ≡ b ∷ xs → Matches (get_or sequences k []) (b ∷ xs) → AnyMatches sequences (encode_scalar c)
in_row c k {b} {xs} e m = rw e (any_at sequences k b xs m)

module _ (c : ℕ) (s : Scalar c) where
  three : 0x800 ≤ c → c < 0x10000 → AnyMatches sequences (encode_scalar c)
  three l h =
      let e = octets_3 c l h in
      ⊎_elim (λ p. in_row c 2 e (omega arith))
      (λ p.
      ⊎_elim (λ q. in_row c 3 e (omega arith))
      (λ q. ⊎_elim (λ r. in_row c 4 e (omega arith)) (λ r. in_row c 5 e (omega (arith, s.1 r))) (below_or c 0xd800))
      (below_or c 0xd000))
      (below_or c 0x1000)

  four : 0x10000 ≤ c → AnyMatches sequences (encode_scalar c)
  four l =
      let e = octets_4 c l in
      ⊎_elim (λ p. in_row c 6 e (omega arith))
      (λ p. ⊎_elim (λ q. in_row c 7 e (omega arith)) (λ q. in_row c 8 e (omega arith)) (below_or c 0x100000))
      (below_or c 0x40000)

  pub octets_match : AnyMatches sequences (encode_scalar c)
  octets_match =
      ⊎_elim (λ h. in_row c 0 (octets_1 c h) (omega arith))
      (λ l.
      ⊎_elim (λ h. in_row c 1 (octets_2 c l h) (omega arith))
      (λ m. ⊎_elim (three m) four (below_or c 0x10000))
      (below_or c 0x800))
      (below_or c 0x80)

-- ---- octets that match a sequence are those of a scalar value

pub record Decoded (octets : List ℕ) : Type 0 where
  pub scalar : ℕ
  pub is_scalar : Scalar scalar
  pub is_encoding : encode_scalar scalar ≡ octets

-- one octet, in a range that ends below 0x80
decode_1 : (r : Range) → r.high < 0x80 → (xs : List ℕ) → Matches (r ∷ []) xs → Decoded xs
decode_1 r low [] m = absurd m
decode_1 r low (a ∷ []) m = record { scalar = a; is_scalar = omega arith; is_encoding = octets_1 a (omega arith) }
decode_1 r low (a ∷ b ∷ xs) m = absurd m.2

-- the octets from the second on are six bits each
abbrev Tail : ℕ → Type 0
Tail b = (0x80 ≤ b) × (b ≤ 0xbf)

-- two octets, in ranges where they give a scalar value of two octets
abbrev value_2 : ℕ → ℕ → ℕ
value_2 a b = (a - 0xc0) * 0x40 + (b - 0x80)

abbrev Two : ℕ → ℕ → Type 0
Two a b = (0xc0 ≤ a) × Tail b × (0x80 ≤ value_2 a b) × (value_2 a b < 0x800)

decode_2 : (r s : Range) → ((a b : ℕ) → Matches (r ∷ s ∷ []) (a ∷ b ∷ []) → Two a b)
    → (xs : List ℕ) → Matches (r ∷ s ∷ []) xs → Decoded xs
decode_2 r s two [] m = absurd m
decode_2 r s two (a ∷ []) m = absurd m.2
decode_2 r s two (a ∷ b ∷ []) m =
    let g : Two a b = two a b m in
    let c : ℕ = value_2 a b in
    let p : 0xc0 + c / 0x40 ≡ a = omega arith in
    let q : 0x80 + c % 0x40 ≡ b = omega arith in
    record { scalar = c; is_scalar = omega arith; is_encoding = cc (octets_2 c g.2 g.3) }
decode_2 r s two (a ∷ b ∷ d ∷ xs) m = absurd m.2.2

-- the same of three
abbrev value_3 : ℕ → ℕ → ℕ → ℕ
value_3 a b d = (a - 0xe0) * 0x1000 + (b - 0x80) * 0x40 + (d - 0x80)

abbrev Three : ℕ → ℕ → ℕ → Type 0
Three a b d = (0xe0 ≤ a) × Tail b × Tail d × (0x800 ≤ value_3 a b d) × (value_3 a b d < 0x10000) × Scalar (value_3 a b d)

decode_3 : (r s t : Range) → ((a b d : ℕ) → Matches (r ∷ s ∷ t ∷ []) (a ∷ b ∷ d ∷ []) → Three a b d)
    → (xs : List ℕ) → Matches (r ∷ s ∷ t ∷ []) xs → Decoded xs
decode_3 r s t three [] m = absurd m
decode_3 r s t three (a ∷ []) m = absurd m.2
decode_3 r s t three (a ∷ b ∷ []) m = absurd m.2.2
decode_3 r s t three (a ∷ b ∷ d ∷ []) m =
    let g : Three a b d = three a b d m in
    let c : ℕ = value_3 a b d in
    let p : 0xe0 + c / 0x1000 ≡ a = omega arith in
    let q : 0x80 + c / 0x40 % 0x40 ≡ b = omega arith in
    let t : 0x80 + c % 0x40 ≡ d = omega arith in
    record { scalar = c; is_scalar = g.5; is_encoding = cc (octets_3 c g.3 g.4) }
decode_3 r s t three (a ∷ b ∷ d ∷ e ∷ xs) m = absurd m.2.2.2

-- the same of four
abbrev value_4 : ℕ → ℕ → ℕ → ℕ → ℕ
value_4 a b d e = (a - 0xf0) * 0x40000 + (b - 0x80) * 0x1000 + (d - 0x80) * 0x40 + (e - 0x80)

abbrev Four : ℕ → ℕ → ℕ → ℕ → Type 0
Four a b d e = (0xf0 ≤ a) × Tail b × Tail d × Tail e × (0x10000 ≤ value_4 a b d e) × Scalar (value_4 a b d e)

decode_4 : (r s t u : Range) → ((a b d e : ℕ) → Matches (r ∷ s ∷ t ∷ u ∷ []) (a ∷ b ∷ d ∷ e ∷ []) → Four a b d e)
    → (xs : List ℕ) → Matches (r ∷ s ∷ t ∷ u ∷ []) xs → Decoded xs
decode_4 r s t u four [] m = absurd m
decode_4 r s t u four (a ∷ []) m = absurd m.2
decode_4 r s t u four (a ∷ b ∷ []) m = absurd m.2.2
decode_4 r s t u four (a ∷ b ∷ d ∷ []) m = absurd m.2.2.2
decode_4 r s t u four (a ∷ b ∷ d ∷ e ∷ []) m =
    let g : Four a b d e = four a b d e m in
    let c : ℕ = value_4 a b d e in
    let p : 0xf0 + c / 0x40000 ≡ a = omega arith in
    let q : 0x80 + c / 0x1000 % 0x40 ≡ b = omega arith in
    let t : 0x80 + c / 0x40 % 0x40 ≡ d = omega arith in
    let u : 0x80 + c % 0x40 ≡ e = omega arith in
    record { scalar = c; is_scalar = g.5; is_encoding = cc (octets_4 c g.4) }
decode_4 r s t u four (a ∷ b ∷ d ∷ e ∷ f ∷ xs) m = absurd m.2.2.2.2

-- the j-th range of the k-th sequence
abbrev range : ℕ → ℕ → Range
range k j = get_or (get_or sequences k []) j (record { low = 0; high = 0 })

abbrev three_of : (k : ℕ) → ((a b d : ℕ) → Matches (range k 0 ∷ range k 1 ∷ range k 2 ∷ []) (a ∷ b ∷ d ∷ []) → Three a b d)
    → (xs : List ℕ) → Matches (range k 0 ∷ range k 1 ∷ range k 2 ∷ []) xs → Decoded xs
three_of k = decode_3 (range k 0) (range k 1) (range k 2)

abbrev four_of : (k : ℕ) → ((a b d e : ℕ) → Matches (range k 0 ∷ range k 1 ∷ range k 2 ∷ range k 3 ∷ []) (a ∷ b ∷ d ∷ e ∷ []) → Four a b d e)
    → (xs : List ℕ) → Matches (range k 0 ∷ range k 1 ∷ range k 2 ∷ range k 3 ∷ []) xs → Decoded xs
four_of k = decode_4 (range k 0) (range k 1) (range k 2) (range k 3)

pub decode : (xs : List ℕ) → AnyMatches sequences xs → Decoded xs
decode xs =
    ⊎_elim (decode_1 (range 0 0) (omega arith) xs)
    (⊎_elim (decode_2 (range 1 0) (range 1 1) (λ a b n. omega arith) xs)
    (⊎_elim (three_of 2 (λ a b d n. omega arith) xs)
    (⊎_elim (three_of 3 (λ a b d n. omega arith) xs)
    (⊎_elim (three_of 4 (λ a b d n. omega arith) xs)
    (⊎_elim (three_of 5 (λ a b d n. omega arith) xs)
    (⊎_elim (four_of 6 (λ a b d e n. omega arith) xs)
    (⊎_elim (four_of 7 (λ a b d e n. omega arith) xs)
    (⊎_elim (four_of 8 (λ a b d e n. omega arith) xs) absurd))))))))

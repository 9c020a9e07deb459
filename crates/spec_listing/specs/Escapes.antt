-- A text within a line: 02, Job 2. A backslash prints as two, a tab, a newline and a carriage return as a backslash and a letter, every
-- other byte as it is.
use Rattle.std.specs.Prelude.{ℕ, ◌≡◌, true, eqb, if◌then◌else◌}
use mathlib.Core.List.{List, [], ◌∷◌, flat_map}
use Rattle.std.proofs.Math.Option.{Option, none, some}
use Rattle.spec_listing.specs.Split.{lacks, cons}

abbrev pub tab : ℕ
tab = 9

abbrev pub newline : ℕ
newline = 10

abbrev pub carriage_return : ℕ
carriage_return = 13

abbrev pub backslash : ℕ
backslash = 92

-- 116 is the letter t, 110 the letter n, 114 the letter r
unfoldable pub escaped_byte : ℕ → List ℕ
escaped_byte b =
    if eqb b backslash then backslash ∷ backslash ∷ [] else
    if eqb b tab then backslash ∷ 116 ∷ [] else
    if eqb b newline then backslash ∷ 110 ∷ [] else
    if eqb b carriage_return then backslash ∷ 114 ∷ [] else
    b ∷ []

-- byte after byte
unfoldable pub escaped : List ℕ → List ℕ
escaped = flat_map escaped_byte

-- bytes within one field of one line
pub record Plain (f : List ℕ) : Type 0 where
  pub no_tab : lacks tab f ≡ true
  pub no_newline : lacks newline f ≡ true
  pub no_return : lacks carriage_return f ≡ true

-- ---- read back

-- the byte that a letter behind a backslash stands for
unfoldable pub byte_of : ℕ → Option ℕ
byte_of c =
    if eqb c backslash then some backslash else
    if eqb c 116 then some tab else
    if eqb c 110 then some newline else
    if eqb c 114 then some carriage_return else
    none

-- the text that prints so; a backslash with no letter, or another letter, is of none
unfoldable pub unescaped : List ℕ → Option (List ℕ)
unescaped [] = some []
unescaped (b ∷ []) = if eqb b backslash then none else some (b ∷ [])
unescaped (b ∷ c ∷ bs) = if eqb b backslash then cons (byte_of c) (unescaped bs) else cons (some b) (unescaped (c ∷ bs))

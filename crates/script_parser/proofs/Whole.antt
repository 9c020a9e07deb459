-- A whole line: too long, a remark, or fields.
use Prim.Native.Nat.{ℕ, ◌≤◌, ◌<◌}
use mathlib.Core.Path.{◌≡◌, refl}
use mathlib.Core.List.{List, [], ◌∷◌}
use native.Mathlib.Omega.{arith}
use lib.ListN.{length, get_or}
use borrow.Author.Tests.{le-leb, lt-leb, eq-eqb, ne_eqb}
use Rattle.spec_replay.specs.Lines.{space, split}
use Rattle.spec_replay.specs.Script.{nothing, other, line_bytes, comment_mark, fields_command, is_remark, command}

pub line_too_long : (line : List ℕ) → line_bytes < length line → command line ≡ other
unfolding command
line_too_long line h = rw (lt-leb (length line) line_bytes h)

pub empty_line : (line : List ℕ) → length line ≡ 0 → command line ≡ nothing
unfolding command is_remark
empty_line [] h = refl
empty_line (b ∷ bs) h = absurd (omega arith)

pub comment : (line : List ℕ) → length line ≤ line_bytes → (length line ≡ 0 → ⊥) → get_or line 0 0 ≡ comment_mark → command line ≡ nothing
unfolding command is_remark
comment [] h k e = absurd (k refl)
comment (b ∷ bs) h k e = rw (le-leb (length (b ∷ bs)) line_bytes h, eq-eqb b comment_mark e)

pub by_fields : (line : List ℕ) → length line ≤ line_bytes → (length line ≡ 0 → ⊥) → (get_or line 0 0 ≡ comment_mark → ⊥) → command line ≡ fields_command (split space line)
unfolding command is_remark
by_fields [] h k e = absurd (k refl)
by_fields (b ∷ bs) h k e = rw (le-leb (length (b ∷ bs)) line_bytes h, ne_eqb b comment_mark e)

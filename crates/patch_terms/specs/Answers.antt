-- What reading a line answers, by the term that it holds.
use Rattle.std.specs.Prelude.{ℕ, ◌+◌, ◌-◌, ◌≡◌, true, List, length, Result, Ok, Err, if◌then◌else◌}
use Rattle.std.proofs.Math.Option.{Option, none, some}
use Rattle.spec_patch.specs.TextRule.{allowed}
use Rattle.spec_import.specs.Import.{Term, read_term, keeps_text}
use Rattle.projection_patch.specs.declared.text_rule.TextFault.{TextFault}
use Rattle.projection_patch.specs.declared.text_rule.TextFault.TheVariants as text
use Rattle.patch_terms.specs.declared.TermRefusal.{TermRefusal}
use Rattle.patch_terms.specs.declared.TermRefusal.TheVariants.{OtherForm, OverCapacity}
use Rattle.patch_terms.specs.declared.TermLine.{TermLine}
use Rattle.patch_terms.specs.Places.{first_term_line}

-- why a line with such a text holds no term
abbrev pub text_refused : TextFault → TermRefusal
text_refused text.Malformed = OtherForm
text_refused text.ManyCharacters = OverCapacity

-- a key, and the position where its text starts
abbrev pub term_ok : ℕ → ℕ → Result (ℕ × ℕ) TermRefusal
term_ok k start = Ok (k, start)

-- a term's key and the position where its text starts, if it is within its limits
abbrev pub kept_at : ℕ → Term → Result (ℕ × ℕ) TermRefusal
kept_at start t = if keeps_text t then term_ok t.key start else Err OverCapacity

-- a key and the text behind it
abbrev pub judged_term : ℕ → ℕ → List ℕ → Result (ℕ × ℕ) TermRefusal
judged_term k start t = if allowed true t then kept_at start (record { key = k; words = t }) else Err OtherForm

-- the text stands at the end of a line of so many bytes
abbrev pub term_to : ℕ → Option Term → Result (ℕ × ℕ) TermRefusal
term_to n none = Err OtherForm
term_to n (some t) = kept_at (n - length t.words) t

abbrev pub term_answer : List ℕ → Result (ℕ × ℕ) TermRefusal
term_answer line = term_to (length line) (read_term line)

-- a key, the place of its text in a list, and where the next line starts
abbrev pub line_ok : (k start len next : ℕ) → Result TermLine TermRefusal
line_ok k start len next = Ok (record { key = k; start = start; len = len; next = next })

-- a line of a list, from a position to its end
abbrev pub line_to : ℕ → ℕ → Result (ℕ × ℕ) TermRefusal → Result TermLine TermRefusal
line_to at end (Ok (k, start)) = line_ok k (at + start) (end - (at + start)) (end + 1)
line_to at end (Err r) = Err r

-- the line at a position where these bytes begin
abbrev pub line_answer : ℕ → List ℕ → Result TermLine TermRefusal
line_answer at bs = line_to at (at + length (first_term_line bs)) (term_answer (first_term_line bs))

-- the first line of these bytes holds a term within its limits
pub record HoldsTerm (bs : List ℕ) : Type 0 where
  pub key : ℕ
  pub start : ℕ
  pub is : term_answer (first_term_line bs) ≡ term_ok key start

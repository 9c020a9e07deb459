-- The answer of the call, by what its steps answer.
use Rattle.std.specs.Prelude.{ℕ, ◌+◌, ◌*◌, ◌≤◌, ◌<◌, refl, Bool, length, if◌then◌else◌}
use Rattle.std.specs.Prelude as code
use Rattle.std.proofs.Math.Path.{◌≡◌}
use Rattle.std.proofs.Common.{sym, ap, ◌∙◌, le-leb, length-append}
use Rattle.std.proofs.Math.Bool.{true, false, not}
use mathlib.Core.List.{List, ◌++◌, flat_map}
use native.Mathlib.Omega.{arith}
use Rattle.std.proofs.lemmas.Bool.{lt-leb}
use Rattle.spec_lists.specs.Lists.{is_empty}
use Rattle.spec_lists.proofs.ListLaws.{flat_map_append}
use Rattle.spec_patch.specs.Patch.{Patch}
use Rattle.spec_patch.specs.Read.{SetReading, patches, fault}
use Rattle.spec_checks.specs.Findings.{findings}
use Rattle.spec_dependencies.specs.Settled.{Settled}
use Rattle.spec_dependencies.specs.Dependencies.{SettlingWalk, settles, contradicts, key_words, keys_at_start, dependencies_by, dependencies}
use Rattle.spec_dependencies.specs.Answer.{pair_length, all_words, has_findings, output_too_short, refused, answer_needs, answered, words_written, answer_by, answer_reading}
use Rattle.spec_dependencies.proofs.AnswerLaws.{all_words_length}
use Rattle.spec_dependencies.proofs.CountLaws.{keys_length}
use Rattle.projection_patch.specs.ReadAnswers.{fault_to}
use Rattle.projection_patch.specs.declared.read_values.ProjectionPatchReadFault.{ProjectionPatchReadFault}
use Rattle.check_findings.specs.Found.{is_found}
use Rattle.check_quick.specs.QuickAnswers.{quick_answer}
use Rattle.check_quick.specs.declared.quick_set.QuickCheck.{QuickCheck}
use Rattle.check_quick.specs.declared.quick_set.QuickCheck.TheVariants as quick
use Rattle.set_dependencies.specs.SettledRows.{SettledIn}
use Rattle.set_dependencies.specs.declared.settled_rows.SettledPlaces.{SettledPlaces}
use Rattle.set_dependencies.specs.SetSettling.{SetSettlesTo}
use Rattle.set_dependencies.specs.DependsAnswers.{depends_answer_to, stopped_answer}
use Rattle.set_dependencies.specs.declared.walk_set.SettlingStop.{SettlingStop}
use Rattle.set_dependencies.specs.declared.walk_set.SettlingStop.TheVariants as settling-stop
use Rattle.set_dependencies.specs.declared.depends.DependenciesRefusal.TheVariants as refusal
use Rattle.set_dependencies.specs.declared.depends.DependenciesAnswer.{DependenciesAnswer}
use Rattle.set_dependencies.specs.declared.depends.DependenciesAnswer.TheVariants as answer

-- ---- the lists of a table

module _ (t : List Settled) (lent : List ℕ) where
  abbrev pub held_words : List ℕ
  held_words = all_words (keys_at_start true t)

  abbrev pub lacked_words : List ℕ
  lacked_words = all_words (keys_at_start false t)

  both_words : all_words (keys_at_start true t ++ keys_at_start false t) ≡ held_words ++ lacked_words
  unfolding all_words
  both_words = flat_map_append key_words (keys_at_start true t) (keys_at_start false t)

  -- two numbers for each row
  pub words_length : length held_words + length lacked_words ≡ pair_length * length t
  words_length = omega (arith, all_words_length (keys_at_start true t), all_words_length (keys_at_start false t), keys_length t)

  all_length : length (all_words (keys_at_start true t ++ keys_at_start false t)) ≡ pair_length * length t
  all_length = ap length both_words ∙ length-append held_words lacked_words ∙ words_length

  pub short_answer : length lent < pair_length * length t → answer_by (dependencies_by (settles t)) lent ≡ answered (refused output_too_short) lent
  unfolding dependencies_by answer_by
  short_answer h = rw (lt-leb (length (all_words (keys_at_start true t ++ keys_at_start false t))) (length lent) (omega (arith, all_length)))

  pub listed_answer : pair_length * length t ≤ length lent
      → answer_by (dependencies_by (settles t)) lent ≡ answered (answer_needs (length (keys_at_start true t)) (length (keys_at_start false t))) (words_written (held_words ++ lacked_words) lent)
  unfolding dependencies_by answer_by
  listed_answer h =
      rw (le-leb (length (all_words (keys_at_start true t ++ keys_at_start false t))) (length lent) (omega (arith, all_length)))
      (ap (λ (words : List ℕ). answered (answer_needs (length (keys_at_start true t)) (length (keys_at_start false t))) (words_written words lent)) both_words)

-- ---- by the walk

module _ (table : List ℕ) where
  pub settled_walk : (w : SettlingWalk) (p : SettledPlaces) → SetSettlesTo w (code.Ok p) table → (t : List Settled) × (w ≡ settles t) × SettledIn p table t
  settled_walk (settles t) p h = (t, refl, h)
  settled_walk (contradicts q o) p h = absurd h

  pub contradicted_walk : (w : SettlingWalk) (i j : ℕ) → SetSettlesTo w (code.Err (settling-stop.Contradiction i j)) table → w ≡ contradicts i j
  contradicted_walk (settles t) i j h = absurd h
  contradicted_walk (contradicts p o) i j h = λ x. contradicts (sym h.0 x) (sym h.1 x)

  pub readable_walk : (w : SettlingWalk) (f : ProjectionPatchReadFault) → SetSettlesTo w (code.Err (settling-stop.Unreadable f)) table → ⊥
  readable_walk (settles t) f h = h
  readable_walk (contradicts p o) f h = h

  -- the answer of a walk that stops is that of the meaning
  pub stopped_walk : (w : SettlingWalk) (stop : SettlingStop) → SetSettlesTo w (code.Err stop) table → (lent : List ℕ) → (stopped_answer stop ≡ depends_answer_to (answer_by (dependencies_by w) lent).answer) × (lent ≡ (answer_by (dependencies_by w) lent).output)
  unfolding dependencies_by answer_by
  stopped_walk (settles t) stop h lent = absurd h
  stopped_walk (contradicts p o) (settling-stop.Contradiction i j) h lent = (λ x. answer.Never (h.0 x) (h.1 x), refl)
  stopped_walk (contradicts p o) (settling-stop.Unreadable f) h lent = absurd h

-- ---- by the quick check

module _ (lent : List ℕ) where
  -- what the call answers, and what it leaves
  abbrev pub Depends : SetReading → DependenciesAnswer → List ℕ → Type 0
  Depends s r out = (r ≡ depends_answer_to (answer_reading s lent).answer) × (out ≡ (answer_reading s lent).output)

  pub clean_depends : (s : SetReading) (a b : ℕ) → quick_answer s ≡ code.Ok (quick.Clean a b) → (r : DependenciesAnswer) (out : List ℕ)
      → ((ps : List Patch) → s ≡ patches ps → r ≡ depends_answer_to (answer_by (dependencies ps) lent).answer) → ((ps : List Patch) → s ≡ patches ps → out ≡ (answer_by (dependencies ps) lent).output)
      → Depends s r out
  unfolding answer_reading is_found
  clean_depends (fault f) a b e r out h k = absurd (let z : ◌≡◌ {A = ℕ} 0 1 = cc in omega arith)
  clean_depends (patches ps) a b e r out h k = go (is_empty (findings ps).found) _ e (h ps refl) (k ps refl)
    where
      go : (t : Bool) (n : ℕ) → ◌≡◌ {A = code.Result QuickCheck ProjectionPatchReadFault} (code.Ok (if not t then quick.Found else quick.Clean (length ps) n)) (code.Ok (quick.Clean a b))
          → r ≡ depends_answer_to (answer_by (dependencies ps) lent).answer → out ≡ (answer_by (dependencies ps) lent).output
          → (r ≡ depends_answer_to (if t then answer_by (dependencies ps) lent else answered (refused has_findings) lent).answer) × (out ≡ (if t then answer_by (dependencies ps) lent else answered (refused has_findings) lent).output)
      go true n e h k = (h, k)
      go false n e h k = absurd (let z : ◌≡◌ {A = ℕ} 0 1 = cc in omega arith)

  pub found_depends : (s : SetReading) → quick_answer s ≡ code.Ok quick.Found → Depends s (answer.Refused refusal.Findings) lent
  unfolding answer_reading is_found
  found_depends (fault f) e = absurd (let z : ◌≡◌ {A = ℕ} 0 1 = cc in omega arith)
  found_depends (patches ps) e = go (is_empty (findings ps).found) _ e
    where
      go : (t : Bool) (n : ℕ) → ◌≡◌ {A = code.Result QuickCheck ProjectionPatchReadFault} (code.Ok (if not t then quick.Found else quick.Clean (length ps) n)) (code.Ok quick.Found)
          → (answer.Refused refusal.Findings ≡ depends_answer_to (if t then answer_by (dependencies ps) lent else answered (refused has_findings) lent).answer) × (lent ≡ (if t then answer_by (dependencies ps) lent else answered (refused has_findings) lent).output)
      go true n e = absurd (let z : ◌≡◌ {A = ℕ} 0 1 = cc in omega arith)
      go false n e = (refl, refl)

  pub refused_depends : (s : SetReading) (f : ProjectionPatchReadFault) → quick_answer s ≡ code.Err f → Depends s (answer.Refused (refusal.Unreadable f)) lent
  unfolding answer_reading
  refused_depends (fault g) f e = let same : fault_to g ≡ f = cc in (ap (λ x. answer.Refused (refusal.Unreadable x)) (sym same), refl)
  refused_depends (patches ps) f e = absurd (let z : ◌≡◌ {A = ℕ} 0 1 = cc in omega arith)

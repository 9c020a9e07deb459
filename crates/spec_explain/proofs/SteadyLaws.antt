-- A field is passed, or stopped at, by the bytes up to its end: what follows them changes nothing, and without them reading breaks off at the
-- field. One law for each way of putting locators together.
use Rattle.std.specs.Prelude.{ℕ, ◌+◌, ◌≡◌, refl, Bool, true, false, List, [], ◌∷◌, ◌++◌, leb, length, take, drop, if◌then◌else◌}
use Rattle.std.proofs.Common.{sym, ap, ◌∙◌, append_assoc, arith, le-leb, leb-true, leb-false, take-append-drop, length-append, take_at, drop_at, length-take-le}
use Rattle.std.proofs.lemmas.Bool.{lt-leb}
use Rattle.spec_lists.specs.Bytes.{number_of}
use Rattle.spec_patch.specs.Reader.{Fault, malformed, Result, read, refused, Reader, byte, bytes, number}
use Rattle.spec_explain.specs.ReadingRule.{ReadingRule, too_few_bytes, Inside, outside}
use Rattle.spec_explain.specs.Locate.{Stop, Located, past, stop, Locator, stop_at, go_on, ◌⨟◌, behind, field_then, placed_stop, within, ends}

-- the same stop, with so many bytes more behind the field
abbrev pub stop_further : Stop → ℕ → Stop
stop_further s n = record { rule = s.rule; inside = s.inside; left = s.left + n }

-- the bytes end at the field
abbrev pub broken_off : Inside → Stop
broken_off here = record { rule = too_few_bytes; inside = here; left = 0 }

-- too few bytes, or decided whatever follows
pub data Decided (l : Locator) (bs : List ℕ) (s : Stop) : Type 0 where
  short : s.rule ≡ too_few_bytes → Decided l bs s
  fixed : ((more : List ℕ) → l (bs ++ more) ≡ stop (stop_further s (length more))) → Decided l bs s

-- what was passed is passed whatever follows
pub record PassedSteadily (l : Locator) (bs rest : List ℕ) : Type 0 where
  pub taken : List ℕ
  pub parts : bs ≡ taken ++ rest
  pub again : (other : List ℕ) → l (taken ++ other) ≡ past other

-- the bytes before the field that is stopped at, and those from it on: without these, reading breaks off at the field
pub record StoppedReading (l : Locator) (bs : List ℕ) (s : Stop) : Type 0 where
  pub front : List ℕ
  pub back : List ℕ
  pub parts : bs ≡ front ++ back
  pub behind : length back ≡ s.left
  pub ends : l front ≡ stop (broken_off s.inside)
  pub decided : Decided l bs s

pub record Steady (l : Locator) : Type 0 where
  pub passes : (bs rest : List ℕ) → l bs ≡ past rest → PassedSteadily l bs rest
  pub stops : (bs : List ℕ) (s : Stop) → l bs ≡ stop s → StoppedReading l bs s

-- ---- located or not

pub past_is : {a b : List ℕ} → past a ≡ past b → a ≡ b
past_is e = cc

pub stop_is : {a b : Stop} → stop a ≡ stop b → a ≡ b
stop_is e = cc

pub not_both : {C : Type 0} {a : List ℕ} {s : Stop} → past a ≡ stop s → C
not_both e = absurd (let z : ◌≡◌ {A = ℕ} 0 1 = cc in omega arith)

-- ---- nothing, and one after the other

pub steady_ends : Steady ends
steady_ends = record {
  passes = λ bs rest e. record { taken = []; parts = past_is e; again = λ other. refl };
  stops = λ bs s e. not_both e;
}

module _ {l m : Locator} (first : Steady l) (second : Steady m) where
  then_passes : (bs rest : List ℕ) (x : Located) → l bs ≡ x → go_on x m ≡ past rest → PassedSteadily (l ⨟ m) bs rest
  then_passes bs rest (stop s) is e = not_both (sym e)
  then_passes bs rest (past mid) is e =
      let a = first.passes bs mid is in
      let b = second.passes mid rest e in
      record {
        taken = a.taken ++ b.taken;
        parts = a.parts ∙ ap (λ (r : List ℕ). a.taken ++ r) b.parts ∙ sym (append_assoc a.taken b.taken rest);
        again = λ other.
            ap (l ⨟ m) (append_assoc a.taken b.taken other)
            ∙ ap (λ (x : Located). go_on x m) (a.again (b.taken ++ other))
            ∙ b.again other;
      }

  then_decided : (bs mid : List ℕ) (s : Stop) → (a : PassedSteadily l bs mid) → Decided m mid s → Decided (l ⨟ m) bs s
  then_decided bs mid s a (short e) = short e
  then_decided bs mid s a (fixed f) = fixed (λ more.
      ap (λ (b : List ℕ). (l ⨟ m) (b ++ more)) a.parts
      ∙ ap (l ⨟ m) (append_assoc a.taken mid more)
      ∙ ap (λ (x : Located). go_on x m) (a.again (mid ++ more))
      ∙ f more)

  first_decided : (bs : List ℕ) (s : Stop) → Decided l bs s → Decided (l ⨟ m) bs s
  first_decided bs s (short e) = short e
  first_decided bs s (fixed f) = fixed (λ more. ap (λ (x : Located). go_on x m) (f more))

  then_stops : (bs : List ℕ) (s : Stop) (x : Located) → l bs ≡ x → go_on x m ≡ stop s → StoppedReading (l ⨟ m) bs s
  then_stops bs s (stop r) is e =
      let a = first.stops bs s (is ∙ e) in
      record {
        front = a.front;
        back = a.back;
        parts = a.parts;
        behind = a.behind;
        ends = ap (λ (x : Located). go_on x m) a.ends;
        decided = first_decided bs s a.decided;
      }
  then_stops bs s (past mid) is e =
      let a = first.passes bs mid is in
      let b = second.stops mid s e in
      record {
        front = a.taken ++ b.front;
        back = b.back;
        parts = a.parts ∙ ap (λ (r : List ℕ). a.taken ++ r) b.parts ∙ sym (append_assoc a.taken b.front b.back);
        behind = b.behind;
        ends = ap (λ (x : Located). go_on x m) (a.again b.front) ∙ b.ends;
        decided = then_decided bs mid s a b.decided;
      }

  pub steady_then : Steady (l ⨟ m)
  steady_then = record { passes = λ bs rest e. then_passes bs rest (l bs) refl e; stops = λ bs s e. then_stops bs s (l bs) refl e }

-- ---- the place of a stop

module _ (here : Inside) {l : Locator} (one : Steady l) where
  within_passes : (bs rest : List ℕ) (x : Located) → l bs ≡ x → placed_stop here x ≡ past rest → PassedSteadily (within here l) bs rest
  within_passes bs rest (stop s) is e = not_both (sym e)
  within_passes bs rest (past mid) is e =
      let a = one.passes bs rest (is ∙ e) in
      record { taken = a.taken; parts = a.parts; again = λ other. ap (placed_stop here) (a.again other) }

  within_decided : (bs : List ℕ) (s t : Stop) → s.rule ≡ t.rule → placed_stop here (stop s) ≡ stop t → Decided l bs s → Decided (within here l) bs t
  within_decided bs s t r e (short q) = short (sym r ∙ q)
  within_decided bs s t r e (fixed f) = fixed (λ more. ap (placed_stop here) (f more) ∙ ap (λ (u : Stop). stop (stop_further u (length more))) (stop_is e))

  within_stops : (bs : List ℕ) (t : Stop) (x : Located) → l bs ≡ x → placed_stop here x ≡ stop t → StoppedReading (within here l) bs t
  within_stops bs t (past mid) is e = not_both e
  within_stops bs t (stop s) is e =
      let a = one.stops bs s is in
      let same = stop_is e in
      record {
        front = a.front;
        back = a.back;
        parts = a.parts;
        behind = a.behind ∙ ap (λ (u : Stop). u.left) same;
        ends = ap (placed_stop here) a.ends ∙ ap (λ (u : Stop). stop (broken_off u.inside)) same;
        decided = within_decided bs s t (ap (λ (u : Stop). u.rule) same) e a.decided;
      }

  pub steady_within : Steady (within here l)
  steady_within = record { passes = λ bs rest e. within_passes bs rest (l bs) refl e; stops = λ bs s e. within_stops bs s (l bs) refl e }

-- ---- fields

-- a reader of so many bytes, at least one: what follows them changes nothing, and from no bytes it reads nothing
pub record WideField {A : Type 0} (p : Reader A) : Type 0 where
  pub reads : (bs : List ℕ) (a : A) (rest : List ℕ) → p bs ≡ read a rest → (taken : List ℕ) × (bs ≡ taken ++ rest) × ((other : List ℕ) → p (taken ++ other) ≡ read a other)
  pub lacking : (bs : List ℕ) (f : Fault) → p bs ≡ refused f → (g : Fault) × (p [] ≡ refused g)

pub wide_byte : WideField byte
wide_byte = record { reads = reads_byte; lacking = λ bs f e. (malformed, refl) }
  where
    reads_byte : (bs : List ℕ) (a : ℕ) (rest : List ℕ) → byte bs ≡ read a rest → (taken : List ℕ) × (bs ≡ taken ++ rest) × ((other : List ℕ) → byte (taken ++ other) ≡ read a other)
    reads_byte [] a rest e = absurd (let z : ◌≡◌ {A = ℕ} 0 1 = cc in omega arith)
    reads_byte (b ∷ bs) a rest e = let same : b ≡ a = cc in (b ∷ [], cc, λ other. ap (λ (x : ℕ). read x other) same)

-- n bytes, taken for what `make` gives of them
module _ {A : Type 0} (n : ℕ) (make : List ℕ → A) where
  abbrev taking : Reader A
  taking bs = if leb n (length bs) then read (make (take n bs)) (drop n bs) else refused malformed

  taking_reads : (bs : List ℕ) (a : A) (rest : List ℕ) (t : Bool) → leb n (length bs) ≡ t → (if t then read (make (take n bs)) (drop n bs) else refused malformed) ≡ read a rest
      → (taken : List ℕ) × (bs ≡ taken ++ rest) × ((other : List ℕ) → taking (taken ++ other) ≡ read a other)
  taking_reads bs a rest false t e = absurd (let z : ◌≡◌ {A = ℕ} 0 1 = cc in omega arith)
  taking_reads bs a rest true t e =
      let long : length (take n bs) ≡ n = length-take-le n bs (leb-true n (length bs) t) in
      let value : make (take n bs) ≡ a = cc e in
      let left : drop n bs ≡ rest = cc e in (
        take n bs,
        sym (take-append-drop n bs) ∙ ap (λ (r : List ℕ). take n bs ++ r) left,
        λ other.
            rw (le-leb n (length (take n bs ++ other)) (omega (arith, length-append (take n bs) other)), take_at (take n bs) other n long, drop_at (take n bs) other n long)
            (ap (λ (x : A). read x other) value),
      )

  taking_lacking : (bs : List ℕ) (f : Fault) (t : Bool) → leb n (length bs) ≡ t → (if t then read (make (take n bs)) (drop n bs) else refused malformed) ≡ refused f → (g : Fault) × (taking [] ≡ refused g)
  taking_lacking bs f true t e = absurd (let z : ◌≡◌ {A = ℕ} 0 1 = cc in omega arith)
  taking_lacking bs f false t e = (malformed, rw (lt-leb n 0 (omega (arith, leb-false n (length bs) t))))

  wide_taking : WideField taking
  wide_taking = record { reads = λ bs a rest e. taking_reads bs a rest (leb n (length bs)) refl e; lacking = λ bs f e. taking_lacking bs f (leb n (length bs)) refl e }

pub wide_number : (n : ℕ) → WideField (number n)
wide_number n = wide_taking n number_of

pub wide_bytes : (n : ℕ) → WideField (bytes n)
wide_bytes n = wide_taking n (λ l. l)

-- what follows a field: reading stops at the field, or goes on
pub data FieldFollows (next : (field rest : List ℕ) → Located) : Type 0 where
  refuses : (rule : ReadingRule) → ((field rest : List ℕ) → next field rest ≡ stop_at rule field) → FieldFollows next
  goes_on : (l : Locator) → Steady l → ((field rest : List ℕ) → next field rest ≡ l rest) → FieldFollows next

module _ {A : Type 0} {p : Reader A} (wide : WideField p) (lacks : (f : Fault) × (p [] ≡ refused f)) (next : List ℕ → A → Locator) (each : (a : A) → FieldFollows (λ bs rest. next bs a rest)) where
  abbrev whole : Locator
  whole bs = field_then p (next bs) bs

  -- without bytes reading breaks off at the field
  none_there : whole [] ≡ stop (broken_off outside)
  none_there = rw lacks.1

  reads_on : (taken other : List ℕ) (a : A) → p (taken ++ other) ≡ read a other → whole (taken ++ other) ≡ next (taken ++ other) a other
  reads_on taken other a e = rw e

  field_passes : (bs rest mid : List ℕ) (a : A) → p bs ≡ read a mid → FieldFollows (λ b r. next b a r) → next bs a mid ≡ past rest → PassedSteadily whole bs rest
  field_passes bs rest mid a is (refuses rule at) e = not_both (sym e ∙ at bs mid)
  field_passes bs rest mid a is (goes_on l steady on) e =
      let w = wide.reads bs a mid is in
      let b = steady.passes mid rest (sym (on bs mid) ∙ e) in
      record {
        taken = w.0 ++ b.taken;
        parts = w.1 ∙ ap (λ (r : List ℕ). w.0 ++ r) b.parts ∙ sym (append_assoc w.0 b.taken rest);
        again = λ other.
            ap whole (append_assoc w.0 b.taken other)
            ∙ reads_on w.0 (b.taken ++ other) a (w.2 (b.taken ++ other))
            ∙ on (w.0 ++ (b.taken ++ other)) (b.taken ++ other)
            ∙ b.again other;
      }

  field_stops : (bs mid : List ℕ) (s : Stop) (a : A) → p bs ≡ read a mid → FieldFollows (λ b r. next b a r) → next bs a mid ≡ stop s → StoppedReading whole bs s
  field_stops bs mid s a is (refuses rule at) e =
      let w = wide.reads bs a mid is in
      let same : record { rule = rule; inside = outside; left = length bs } ≡ s = stop_is (sym (at bs mid) ∙ e) in
      record {
        front = [];
        back = bs;
        parts = refl;
        behind = ap (λ (u : Stop). u.left) same;
        ends = none_there ∙ ap (λ (u : Stop). stop (broken_off u.inside)) same;
        decided = fixed (λ more.
            ap (λ (b : List ℕ). whole (b ++ more)) w.1
            ∙ ap whole (append_assoc w.0 mid more)
            ∙ reads_on w.0 (mid ++ more) a (w.2 (mid ++ more))
            ∙ at (w.0 ++ (mid ++ more)) (mid ++ more)
            ∙ ap (stop_at rule) (sym (append_assoc w.0 mid more) ∙ ap (λ (b : List ℕ). b ++ more) (sym w.1))
            ∙ ap (λ (n : ℕ). stop (record { rule = rule; inside = outside; left = n })) (length-append bs more)
            ∙ ap (λ (u : Stop). stop (stop_further u (length more))) same);
      }
  field_stops bs mid s a is (goes_on l steady on) e =
      let w = wide.reads bs a mid is in
      let b = steady.stops mid s (sym (on bs mid) ∙ e) in
      record {
        front = w.0 ++ b.front;
        back = b.back;
        parts = w.1 ∙ ap (λ (r : List ℕ). w.0 ++ r) b.parts ∙ sym (append_assoc w.0 b.front b.back);
        behind = b.behind;
        ends = reads_on w.0 b.front a (w.2 b.front) ∙ on (w.0 ++ b.front) b.front ∙ b.ends;
        decided = onto w.0 w.1 w.2 b.decided;
      }
    where
      onto : (taken : List ℕ) → bs ≡ taken ++ mid → ((other : List ℕ) → p (taken ++ other) ≡ read a other) → Decided l mid s → Decided whole bs s
      onto taken parts again (short q) = short q
      onto taken parts again (fixed f) = fixed (λ more.
          ap (λ (b : List ℕ). whole (b ++ more)) parts
          ∙ ap whole (append_assoc taken mid more)
          ∙ reads_on taken (mid ++ more) a (again (mid ++ more))
          ∙ on (taken ++ (mid ++ more)) (mid ++ more)
          ∙ f more)

  lacking_stops : (bs : List ℕ) (s : Stop) → stop_at too_few_bytes bs ≡ stop s → StoppedReading whole bs s
  lacking_stops bs s e =
      let same = stop_is e in
      record {
        front = [];
        back = bs;
        parts = refl;
        behind = ap (λ (u : Stop). u.left) same;
        ends = none_there ∙ ap (λ (u : Stop). stop (broken_off u.inside)) same;
        decided = short (sym (ap (λ (u : Stop). u.rule) same));
      }

  pub steady_field : Steady whole
  steady_field = record { passes = λ bs rest e. by_passing bs rest (p bs) refl e; stops = λ bs s e. by_stopping bs s (p bs) refl e }
    where
      by_passing : (bs rest : List ℕ) (r : Result A) → p bs ≡ r → behind bs r (next bs) ≡ past rest → PassedSteadily whole bs rest
      by_passing bs rest (read a mid) is e = field_passes bs rest mid a is (each a) e
      by_passing bs rest (refused f) is e = not_both (sym e)

      by_stopping : (bs : List ℕ) (s : Stop) (r : Result A) → p bs ≡ r → behind bs r (next bs) ≡ stop s → StoppedReading whole bs s
      by_stopping bs s (read a mid) is e = field_stops bs mid s a is (each a) e
      by_stopping bs s (refused f) is e = lacking_stops bs s e

-- Laws of reports and of checks of each element: what they find, and how a loop goes on.
use Rattle.std.specs.Prelude.{◌≡◌, refl, Bool, true, false, ◌↔◌}
use Rattle.std.proofs.Common.{ap, ⊎_elim}
use Rattle.std.proofs.lemmas.Bool.{false≢true}
use mathlib.Core.List.{List, [], ◌∷◌, ◌++◌, reverse_aux}
use mathlib.Core.List.Memᴰ
use mathlib.Core.List.{Memᴰ}
use Rattle.spec_checks.specs.Finding.{Finding, report, check_each}

pub report_member : (t : Bool) (f g : Finding) → Memᴰ f (report t g) ↔ ((t ≡ true) × (f ≡ g))
unfolding report
report_member true f g = (λ m. (refl, Memᴰ.eq_of_singleton m), λ h. Memᴰ.head h.1)
report_member false f g = (λ m. absurd (Memᴰ.not-nil m), λ h. absurd (false≢true h.0))

-- a finding of a report and others is the report's, or one of the others
pub report_cases : {C : Type 0} (t : Bool) (g : Finding) (others : List Finding) (f : Finding) → (t ≡ true → f ≡ g → C) → (Memᴰ f others → C) → Memᴰ f (report t g ++ others) → C
report_cases t g others f here there m = ⊎_elim (λ (n : Memᴰ f (report t g)). let h = (report_member t f g).0 n in here h.0 h.1) there (Memᴰ.append_cases (report t g) m)

pub report_here : (t : Bool) (g : Finding) (others : List Finding) (f : Finding) → t ≡ true → f ≡ g → Memᴰ f (report t g ++ others)
report_here t g others f h e = Memᴰ.append_left others ((report_member t f g).1 (h, e))

pub report_there : (t : Bool) (g : Finding) (others : List Finding) (f : Finding) → Memᴰ f others → Memᴰ f (report t g ++ others)
report_there t g others f m = Memᴰ.append_right (report t g) m

-- a finding of each is one of some element after those before it
pub check_each_member : {A : Type 0} (check : List A → A → List Finding) (earlier xs : List A) (f : Finding) → Memᴰ f (check_each check earlier xs)
    → (a : List A) × (x : A) × (b : List A) × (xs ≡ a ++ (x ∷ b)) × Memᴰ f (check (reverse_aux a earlier) x)
unfolding check_each
check_each_member check earlier [] f m = absurd (Memᴰ.not-nil m)
check_each_member {A} check earlier (x ∷ xs) f m =
    ⊎_elim (λ (h : Memᴰ f (check earlier x)). ([], x, xs, refl, h)) (λ (h : Memᴰ f (check_each check (x ∷ earlier) xs)). later (check_each_member check (x ∷ earlier) xs f h))
    (Memᴰ.append_cases (check earlier x) m)
  where
    later : (a : List A) × (y : A) × (b : List A) × (xs ≡ a ++ (y ∷ b)) × Memᴰ f (check (reverse_aux a (x ∷ earlier)) y)
        → (a : List A) × (y : A) × (b : List A) × (x ∷ xs ≡ a ++ (y ∷ b)) × Memᴰ f (check (reverse_aux a earlier) y)
    later s = (x ∷ s.0, s.1, s.2, ap (λ l. x ∷ l) s.3, s.4)

pub member_check_each : {A : Type 0} (check : List A → A → List Finding) (earlier a : List A) (x : A) (b : List A) (f : Finding)
    → Memᴰ f (check (reverse_aux a earlier) x) → Memᴰ f (check_each check earlier (a ++ (x ∷ b)))
unfolding check_each
member_check_each check earlier [] x b f m = Memᴰ.append_left (check_each check (x ∷ earlier) b) m
member_check_each check earlier (y ∷ a) x b f m = Memᴰ.append_right (check earlier y) (member_check_each check (y ∷ earlier) a x b f m)

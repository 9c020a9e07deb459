-- Laws of what is said by editions.
use Rattle.std.specs.Prelude.{ℕ, ◌≡◌, refl, true, false}
use Rattle.std.proofs.Common.{ap}
use Rattle.spec_patch.specs.Edition.{Edition}
use Rattle.c_answers.specs.Asked.{edition_at, is_edition, by_edition}

-- of a number that is an edition, what is said of that edition
pub of_edition : {A : Type 0} (n : ℕ) (tells : Edition → A) (other : A) → is_edition n ≡ true → {ed : Edition} → ed ≡ edition_at n → tells ed ≡ by_edition n tells other
unfolding by_edition
of_edition n tells other is same = rw is (ap tells same)

-- of any other number, what is said of none
pub of_no_edition : {A : Type 0} (n : ℕ) (tells : Edition → A) (other : A) → is_edition n ≡ false → other ≡ by_edition n tells other
unfolding by_edition
of_no_edition n tells other not = rw not refl

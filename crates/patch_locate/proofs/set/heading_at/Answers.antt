-- `patch_locate::set::heading_at` meets its contract: the letters of the edition.
use Prim.Native.Nat.{ℕ}
use mathlib.Core.Path.{◌≡◌, refl, sym, ap, ◌∙◌}
use mathlib.Core.List.{List, [], ◌∷◌}
use lib.ListN.{length}
use Rattle.spec_lists.specs.Bytes.{little_endian}
use Rattle.spec_patch.specs.Edition.{v1, v2, edition_digit, letters}
use Rattle.spec_patch.specs.Encode.{heading}
use Rattle.spec_explain.specs.Locate.{locate_letters}
use Rattle.projection_patch.specs.Meaning.{edition_of}
use Rattle.patch_locate.specs.Answers.{located_answer}
use Rattle.patch_locate.proofs.set.heading_at.Goals as goal

spelled_1 : 27 ∷ 0 ∷ 0 ∷ 0 ∷ 85 ∷ 73 ∷ 95 ∷ 68 ∷ 78 ∷ 65 ∷ 50 ∷ 95 ∷ 80 ∷ 82 ∷ 79 ∷ 74 ∷ 69 ∷ 67 ∷ 84 ∷ 73 ∷ 79 ∷ 78 ∷ 95 ∷ 80 ∷ 65 ∷ 84 ∷ 67 ∷ 72 ∷ 95 ∷ 86 ∷ 49 ∷ [] ≡ heading v1
unfolding heading little_endian letters edition_digit
spelled_1 = refl

spelled_2 : 27 ∷ 0 ∷ 0 ∷ 0 ∷ 85 ∷ 73 ∷ 95 ∷ 68 ∷ 78 ∷ 65 ∷ 50 ∷ 95 ∷ 80 ∷ 82 ∷ 79 ∷ 74 ∷ 69 ∷ 67 ∷ 84 ∷ 73 ∷ 79 ∷ 78 ∷ 95 ∷ 80 ∷ 65 ∷ 84 ∷ 67 ∷ 72 ∷ 95 ∷ 86 ∷ 50 ∷ [] ≡ heading v2
unfolding heading little_endian letters edition_digit
spelled_2 = refl

pub returns-in-V1 : goal.returns-in-V1
returns-in-V1 c =
    c.letters_at.ensures
    ∙ ap (λ (l : List ℕ). located_answer (length c.args.set.now) (locate_letters l c.args.set.now)) (spelled_1 ∙ ap heading (sym (ap edition_of c.in-V1.is)))

pub returns-in-V2 : goal.returns-in-V2
returns-in-V2 c =
    c.letters_at-in-V2.ensures
    ∙ ap (λ (l : List ℕ). located_answer (length c.args.set.now) (locate_letters l c.args.set.now)) (spelled_2 ∙ ap heading (sym (ap edition_of c.in-V2.is)))

-- `bytes_utf8::character_length` meets its contract: the class of the first byte says how many bytes follow it, and which.
use Prim.Native.Nat.{ℕ}
use mathlib.Core.Path.{◌≡◌, refl, sym, ap, ◌∙◌}
use mathlib.Core.List.{List}
use lib.ListN.{drop}
use borrow.Author.Tests.{ne_eqb}
use Rattle.spec_text.specs.Syntax.{refused}
use Rattle.bytes_utf8.specs.Classes.{after_class}
use Rattle.bytes_utf8.specs.Characters.{matches, length_after, character_length, if_any}
use Rattle.bytes_utf8.proofs.CharacterLaws.{character_class}
use Rattle.bytes_utf8.proofs.character_length.Goals as goal
use Rattle.bytes_utf8.proofs.character_length.Goals.{After-class_of}

abbrev text : After-class_of → List ℕ
text c = c.args.text.now

of-class : (c : After-class_of) (class : ℕ) → c.class_of.result ≡ class → character_length (text c) ≡ length_after (after_class class) (drop 1 (text c))
of-class c class e =
    character_class (text c) class c.requires.1 (c.type_inv.text 0).fits (sym e ∙ c.class_of.ensures)

other : (class : ℕ) → (class ≡ 0 → ⊥) → (class ≡ 4 → ⊥) → (class ≡ 5 → ⊥) → (class ≡ 6 → ⊥) → (class ≡ 7 → ⊥) → (class ≡ 8 → ⊥)
    → (class ≡ 9 → ⊥) → (class ≡ 10 → ⊥) → after_class class ≡ refused
unfolding after_class
other n a b d e f g h i =
    rw (ne_eqb n 0 a, ne_eqb n 4 b, ne_eqb n 5 d, ne_eqb n 6 e, ne_eqb n 7 f, ne_eqb n 8 g, ne_eqb n 9 h, ne_eqb n 10 i)

pub returns-in-0 : goal.returns-in-0
unfolding after_class length_after matches
returns-in-0 c = ap if_any (sym (of-class (goal.at.returns-in-0 c).After-class_of 0 c.in-0.is))

pub returns-in-4 : goal.returns-in-4
unfolding after_class
returns-in-4 c = c.sequence_length.ensures ∙ ap if_any (sym (of-class (goal.at.returns-in-4 c).After-class_of 4 c.in-4.is))

pub returns-in-5 : goal.returns-in-5
unfolding after_class
returns-in-5 c = c.sequence_length-in-5.ensures ∙ ap if_any (sym (of-class (goal.at.returns-in-5 c).After-class_of 5 c.in-5.is))

pub returns-in-6 : goal.returns-in-6
unfolding after_class
returns-in-6 c = c.sequence_length-in-6.ensures ∙ ap if_any (sym (of-class (goal.at.returns-in-6 c).After-class_of 6 c.in-6.is))

pub returns-in-7 : goal.returns-in-7
unfolding after_class
returns-in-7 c = c.sequence_length-in-7.ensures ∙ ap if_any (sym (of-class (goal.at.returns-in-7 c).After-class_of 7 c.in-7.is))

pub returns-in-8 : goal.returns-in-8
unfolding after_class
returns-in-8 c = c.sequence_length-in-8.ensures ∙ ap if_any (sym (of-class (goal.at.returns-in-8 c).After-class_of 8 c.in-8.is))

pub returns-in-9 : goal.returns-in-9
unfolding after_class
returns-in-9 c = c.sequence_length-in-9.ensures ∙ ap if_any (sym (of-class (goal.at.returns-in-9 c).After-class_of 9 c.in-9.is))

pub returns-in-10 : goal.returns-in-10
unfolding after_class
returns-in-10 c = c.sequence_length-in-10.ensures ∙ ap if_any (sym (of-class (goal.at.returns-in-10 c).After-class_of 10 c.in-10.is))

pub returns-in_default : goal.returns-in_default
unfolding length_after
returns-in_default c =
    let e =
    other c.class_of.result c.in_default.in_default-own.rest.0.0.0.0.0.0.0.1 c.in_default.in_default-own.rest.0.0.0.0.0.0.1 c.in_default.in_default-own.rest.0.0.0.0.0.1 c.in_default.in_default-own.rest.0.0.0.0.1
    c.in_default.in_default-own.rest.0.0.0.1 c.in_default.in_default-own.rest.0.0.1 c.in_default.in_default-own.rest.0.1 c.in_default.in_default-own.rest.1 in
    let length : 0 ≡ character_length c.args.text.now = sym (of-class (goal.at.returns-in_default c).After-class_of _ refl ∙ rw e) in
    ap if_any length

-- The batches of a line are those that a call names.
use Rattle.std.specs.Prelude.{ℕ, ◌+◌, ◌≤◌, ◌<◌, ◌≡◌, refl, List, [], ◌∷◌, ◌++◌, map, leb, length, take, set, get_or, Option, Some, None}
use Rattle.std.proofs.Common.{sym, ap, ap₂, ◌∙◌, add-one, arith, leb-true, leb-false, length-take, length-set, take-take, take_all, take-suc, take-suc-set, length-take-le}
use Rattle.std.proofs.lemmas.List.{map-append, length-map}
use Rattle.spec_lists.proofs.ListLaws.{map_take, test_cases}
use Rattle.spec_group.specs.Group as model
use Rattle.spec_group.specs.Group.{group_batches}
use Rattle.spec_replay.specs.Script.{group, other, line_members}
use Rattle.projection_patch.specs.declared.patch.ProjectionPatchEdition.TheVariants.{V1}
use Rattle.session_group.specs.declared.GroupBatch.{GroupBatch}
use Rattle.session_group.specs.Groups.{batch_means, named_batch, Names}
use Rattle.script_parser.specs.Meaning.{member_of, first_members, set_from}
use Rattle.script_parser.specs.Members.{group_then}
use Rattle.script_parser.specs.declared.GroupMember.{GroupMember}
use Rattle.script_parser.specs.declared.members.GroupFields.{GroupFields}

-- what a read past the places would give
abbrev pub no_member : GroupMember
no_member = record {
  batch = record { session_id = 0; sequence_no = 0; patch_count = 0; stimulus_bytes = 0; target_references = 0 };
  edition = V1;
  bytes = 0;
}

-- ---- place by place

-- the first i batches are those of the first i members
pub record Copied (members : List GroupMember) (batches : List GroupBatch) (i : ℕ) : Type 0 where
  pub size : length batches ≡ group_batches
  pub few : i ≤ group_batches
  pub same : map batch_means (take i batches) ≡ map member_of (take i members)

pub copied_start : (members : List GroupMember) (batches : List GroupBatch) → length batches ≡ group_batches → Copied members batches 0
copied_start members batches size = record { size = size; few = omega arith; same = refl }

pub copied_turn : (members : List GroupMember) (batches : List GroupBatch) (i : ℕ) → Copied members batches i → i < group_batches → length members ≡ line_members → (b : GroupBatch) → batch_means b ≡ member_of (get_or members i no_member)
    → Copied members (set batches i b) (i + 1)
copied_turn members batches i h more many b told = record {
  size = length-set batches i b ∙ h.size;
  few = omega arith;
  same =
      ap (λ (k : ℕ). map batch_means (take k (set batches i b))) (add-one i)
      ∙ ap (map batch_means) (take-suc-set batches i b (omega (arith, h.size)))
      ∙ map-append batch_means (take i batches) (b ∷ [])
      ∙ ap₂ (λ (l : List model.GroupBatch) (x : model.GroupBatch). l ++ (x ∷ [])) h.same told
      ∙ sym (map-append member_of (take i members) (get_or members i no_member ∷ []))
      ∙ ap (map member_of) (sym (take-suc members i no_member (omega arith)))
      ∙ ap (λ (k : ℕ). map member_of (take k members)) (sym (add-one i));
}

pub copied_end : (members : List GroupMember) (batches : List GroupBatch) (i : ℕ) → Copied members batches i → group_batches ≤ i → map batch_means batches ≡ map member_of (take group_batches members)
copied_end members batches i h done =
    let all : i ≡ group_batches = omega (arith, h.few) in
    ap (map batch_means) (sym (take_all i batches (omega (arith, h.size)))) ∙ h.same ∙ ap (λ (k : ℕ). map member_of (take k members)) all

-- ---- the batches that the call names

take_both : {A : Type 0} (m n : ℕ) (l : List A) → take m (take n l) ≡ take n (take m l)
take_both m n l =
    test_cases (leb m n)
    (λ t. take-take m n l (leb-true m n t) ∙ sym (take_all n (take m l) (omega (arith, leb-true m n t, length-take m l))))
    (λ t. take_all m (take n l) (omega (arith, leb-false m n t, length-take n l)) ∙ sym (take-take n m l (omega (arith, leb-false m n t))))

pub names_members : (members : List GroupMember) (batches : List GroupBatch) (count : ℕ) → length members ≡ line_members → map batch_means batches ≡ map member_of (take group_batches members) → count ≤ line_members
    → Names count batches (first_members count members)
names_members members batches count many same few = record {
  many = length-map (take count members) member_of ∙ length-take-le count members (omega arith);
  firsts =
      sym (map_take member_of group_batches (take count members))
      ∙ ap (map member_of) (take_both group_batches count members)
      ∙ map_take member_of count (take group_batches members)
      ∙ ap (take count) (sym same)
      ∙ sym (map_take batch_means count batches);
}

-- ---- what was read of a line

module _ (line : List ℕ) (r : Option GroupFields) where
  pub group_read : (f : GroupFields) → r ≡ Some f → group_then line r ≡ set_from line f.from (group (first_members f.count f.members))
  group_read f e = ap (group_then line) e

  pub group_not_read : r ≡ None → group_then line r ≡ other
  group_not_read e = ap (group_then line) e

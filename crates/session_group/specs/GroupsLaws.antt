-- The batches that a call names, one by one, and whether they are a group.
use Rattle.std.specs.Prelude.{ℕ, ◌+◌, ◌-◌, ◌≤◌, ◌<◌, ◌≡◌, refl, true, false, List, [], ◌∷◌, leb, eqb, length, get_or, take, drop}
use Rattle.std.proofs.Math.Path.{sym, ap}
use Rattle.std.proofs.Common.{ap₂, ◌∙◌, add-one, arith, drop_of_length-le, drop-cons, get_or-take, length-take-le, take_all}
use borrow.Author.Tests.{eq-eqb, ne_eqb, leb-true, eqb-true, eqb-false, lt-leb, le-leb}
use Rattle.std.proofs.lemmas.List.{length-map}
use Rattle.std.proofs.Math.ListN.{get_or-map}
use Rattle.spec_lists.proofs.ListLaws.{and_left, and_right, test_cases}
use Rattle.spec_group.specs.Group as model
use Rattle.spec_group.specs.Group.{group_batches, total_bytes, is_group}
use Rattle.projection_patch.specs.declared.patch.ProjectionPatchEdition.TheVariants.{V1}
use Rattle.session_group.specs.declared.GroupBatch.{GroupBatch}
use Rattle.session_group.specs.Groups.{batch_means, named_batch, Names, names_group}

-- what a read past the places would give
abbrev pub no_batch : GroupBatch
no_batch = record {
  envelope = record { session_id = record { 0 = 0 }; sequence_no = 0; patch_count = 0; stimulus_bytes = 0 };
  declared_target_reference_count = 0;
  edition = V1;
  bytes = 0;
}

module _ (count : ℕ) (places : List GroupBatch) (within : count ≤ length places) where
  pub named_length : length (named_batch count places) ≡ count
  named_length = length-map (take count places) batch_means ∙ length-take-le count places within

  -- the batch in a place, and those behind it
  pub named_cons : (i : ℕ) → i < count → drop i (named_batch count places) ≡ batch_means (get_or places i no_batch) ∷ drop (i + 1) (named_batch count places)
  named_cons i more =
      drop-cons (named_batch count places) i (batch_means no_batch) (omega (arith, named_length))
      ∙ ap₂ (λ (b : model.GroupBatch) (bs : List model.GroupBatch). b ∷ bs)
      (get_or-map batch_means (take count places) i no_batch ∙ ap batch_means (get_or-take count places i no_batch more))
      (ap (λ (k : ℕ). drop k (named_batch count places)) (sym (add-one i)))

  -- there is none behind the last
  pub named_none : (i : ℕ) → count ≤ i → drop i (named_batch count places) ≡ []
  named_none i done = drop_of_length-le (named_batch count places) {i = i} (omega (arith, named_length))

-- ---- the lengths, counted down

-- so many of the bytes are left for the batches from a place on
pub record CountedDown (bs : List model.GroupBatch) (bytes left i : ℕ) : Type 0 where
  pub down : left + total_bytes bs ≡ bytes + total_bytes (drop i bs)

pub counted_start : (bs : List model.GroupBatch) (bytes : ℕ) → CountedDown bs bytes bytes 0
counted_start bs bytes = record { down = refl }

module _ {bs : List model.GroupBatch} {bytes left i : ℕ} (counted : CountedDown bs bytes left i) where
  pub counted_next : (b : model.GroupBatch) → drop i bs ≡ b ∷ drop (i + 1) bs → b.bytes ≤ left → CountedDown bs bytes (left - b.bytes) (i + 1)
  unfolding total_bytes
  counted_next b parted fits = record { down = omega (arith, counted.down, ap total_bytes parted) }

  -- too few are left for the next
  pub counted_over : (b : model.GroupBatch) → drop i bs ≡ b ∷ drop (i + 1) bs → left < b.bytes → eqb (total_bytes bs) bytes ≡ false
  unfolding total_bytes
  counted_over b parted over = ne_eqb (total_bytes bs) bytes (λ same. omega (arith, counted.down, ap total_bytes parted, same))

  -- behind the last they add up where nothing is left
  pub counted_end : drop i bs ≡ [] → eqb left 0 ≡ eqb (total_bytes bs) bytes
  unfolding total_bytes
  counted_end none =
      test_cases (eqb left 0)
      (λ e. e ∙ sym (eq-eqb (total_bytes bs) bytes (omega (arith, counted.down, ap total_bytes none, eqb-true left 0 e))))
      (λ e. e ∙ sym (ne_eqb (total_bytes bs) bytes (λ same. eqb-false left 0 e (omega (arith, counted.down, ap total_bytes none, same)))))

-- ---- a group, by the count and the places

module _ (count : ℕ) (places : List GroupBatch) (bytes : ℕ) where
  pub none_named : count < 1 → names_group count places bytes ≡ false
  unfolding names_group
  none_named few = rw (lt-leb 1 count few)

  pub many_named : group_batches < count → names_group count places bytes ≡ false
  unfolding names_group
  many_named many = rw (le-leb 1 count (omega arith), lt-leb count group_batches many)

  pub some_named : 1 ≤ count → count ≤ group_batches → names_group count places bytes ≡ eqb (total_bytes (named_batch count places)) bytes
  unfolding names_group
  some_named some few = rw (le-leb 1 count some, le-leb count group_batches few)

  pub group_named : names_group count places bytes ≡ true → (count ≤ group_batches) × (total_bytes (named_batch count places) ≡ bytes)
  unfolding names_group
  group_named e =
      let few = and_right (leb 1 count) _ e in
      (leb-true count group_batches (and_left (leb count group_batches) _ few), eqb-true (total_bytes (named_batch count places)) bytes (and_right (leb count group_batches) _ few))

module _ {count : ℕ} {places : List GroupBatch} {bs : List model.GroupBatch} (names : Names count places bs) where
  -- at most eight batches are those in the places
  pub names_all : count ≤ group_batches → bs ≡ named_batch count places
  names_all few = sym (take_all group_batches bs (omega (arith, names.many))) ∙ names.firsts

  pub names_group_lem : (sets : List ℕ) → is_group bs sets ≡ names_group count places (length sets)
  unfolding is_group names_group
  names_group_lem sets =
      test_cases (leb count group_batches)
      (λ e. rw (names.many, names_all (leb-true count group_batches e)))
      (λ e. rw (names.many, e))

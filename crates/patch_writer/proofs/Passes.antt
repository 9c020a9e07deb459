-- The passes that write: operations one behind the other, and each head with its operations behind it.
use Prim.Native.Nat.{ℕ, ◌+◌, ◌≤◌, ◌<◌}
use mathlib.Core.Path.{◌≡◌, refl, sym, ap, ap₂, subst, ◌∙◌}
use mathlib.Core.Bool.{Bool, true, ◌&&◌}
use mathlib.Core.List.{List, [], ◌∷◌, ◌++◌, map, flat_map, append_assoc}
use native.Mathlib.Omega.{arith}
use borrow.Author.Tests.{leb-true}
use lib.ListN.{length, get_or, take, drop, length-drop, length-map, take-append-drop}
use lib.Seq.{length-take-le}
use Rattle.std.proofs.lemmas.List.{drop-take, take-take}
use Rattle.spec_lists.specs.Lists.{all}
use Rattle.spec_lists.proofs.ListLaws.{and_left, and_right, all_test_append}
use Rattle.spec_patch.specs.Sizes.{patch_operations, text_bytes}
use Rattle.spec_patch.specs.Patch as model
use Rattle.spec_patch.specs.Encode.{u32, encode_operation, encode_envelope, encode_counted, encode_patch}
use Rattle.bytes_wire.specs.Write.{overwrite}
use Rattle.projection_patch.specs.Meaning.{envelope_of}
use Rattle.projection_patch.specs.declared.patch.ProjectionPatch.{ProjectionPatch}
use Rattle.projection_patch.specs.declared.patch.OperationPlace.{OperationPlace}
use Rattle.patch_part_writer.specs.Extent.{head_size, operation_size, operation_text, WithinTexts}
use Rattle.patch_part_writer.specs.ExtentLaws.{length_head, length_operation}
use Rattle.patch_writer.specs.Set.{operation_at, list_from, operation_total, few_operations, short_at, inside_at}
use Rattle.patch_writer.specs.Survey.{operation_bytes, TextsHold, OperationsReady, HeadsHold}
use Rattle.patch_writer.proofs.Elements.{whole_cons, all_get_d, no_patch, no_text_place}
use Rattle.patch_writer.proofs.Progress.{Progress, Next, progress_fits, progress_next}

-- ---- operations

module _ (texts : List ℕ) (ps : List OperationPlace) (hold : TextsHold texts ps) (i : ℕ) (more : i < length ps) where
  abbrev place : OperationPlace
  place = get_or ps i no_text_place

  pub place_within : WithinTexts texts (operation_text place.operation)
  place_within = record {
    inside = leb-true ((operation_text place.operation).start + (operation_text place.operation).len) (length texts) (all_get_d (inside_at texts) ps i no_text_place hold.inside more);
    short = leb-true (operation_text place.operation).len text_bytes (all_get_d short_at ps i no_text_place hold.short more);
  }

  pub operation_next : Next (operation_bytes texts (drop i ps)) (encode_operation (operation_at texts place)) (operation_bytes texts (drop (i + 1) ps)) (operation_size place.operation)
  unfolding flat_map
  operation_next = record {
    parted = ap (operation_bytes texts) (whole_cons ps i no_text_place more);
    long = length_operation texts place.operation place_within.inside;
  }

pub no_operations : (texts : List ℕ) → operation_bytes texts [] ≡ []
unfolding flat_map
no_operations texts = refl

-- ---- heads

-- the bytes of a head
abbrev pub head_bytes : ProjectionPatch → List ℕ
head_bytes h = encode_envelope (envelope_of h.envelope) ++ u32 h.operation_count

-- what passes of all passes of the first n and of the others
parted : (test : OperationPlace → Bool) (n : ℕ) (ps : List OperationPlace) → all test ps ≡ true → (all test (take n ps) && all test (drop n ps)) ≡ true
parted test n ps e = sym (all_test_append test (take n ps) (drop n ps)) ∙ ap (all test) (take-append-drop n ps) ∙ e

module _ (texts : List ℕ) (n : ℕ) (ps : List OperationPlace) (hold : TextsHold texts ps) where
  pub own_hold : TextsHold texts (take n ps)
  own_hold = record { short = and_left _ _ (parted short_at n ps hold.short); inside = and_left _ _ (parted (inside_at texts) n ps hold.inside) }

  pub others_hold : TextsHold texts (drop n ps)
  others_hold = record { short = and_right _ _ (parted short_at n ps hold.short); inside = and_right _ _ (parted (inside_at texts) n ps hold.inside) }

module _ (texts : List ℕ) (h : ProjectionPatch) (hs : List ProjectionPatch) (ps : List OperationPlace) (heads : HeadsHold texts (h ∷ hs) ps) where
  pub head_few : h.operation_count ≤ patch_operations
  head_few = leb-true h.operation_count patch_operations (and_left (few_operations h) (all few_operations hs) heads.few)

  pub head_within : h.operation_count ≤ length ps
  unfolding operation_total
  head_within = omega (arith, heads.counted)

  pub others_left : HeadsHold texts hs (drop h.operation_count ps)
  unfolding operation_total
  others_left = record {
    few = and_right (few_operations h) (all few_operations hs) heads.few;
    counted = omega (arith, heads.counted, length-drop h.operation_count ps);
    hold = others_hold texts h.operation_count ps heads.hold;
  }

  -- a head, its operations, and the other patches
  abbrev pub own : List ℕ
  own = operation_bytes texts (take h.operation_count ps)

  abbrev pub others : List ℕ
  others = flat_map encode_patch (list_from texts hs (drop h.operation_count ps))

  pub head_next : Next (flat_map encode_patch (list_from texts (h ∷ hs) ps)) (head_bytes h) (own ++ others) (head_size h)
  unfolding flat_map list_from encode_patch encode_counted
  head_next = record {
    parted =
        ap (λ (k : ℕ). (encode_envelope (envelope_of h.envelope) ++ (u32 k ++ own)) ++ others) many
        ∙ regroup (encode_envelope (envelope_of h.envelope)) (u32 h.operation_count) own others;
    long = length_head h;
  }
    where
      many : length (map (operation_at texts) (take h.operation_count ps)) ≡ h.operation_count
      many = length-map (take h.operation_count ps) (operation_at texts) ∙ length-take-le h.operation_count ps head_within

      regroup : (a b c d : List ℕ) → (a ++ (b ++ c)) ++ d ≡ (a ++ b) ++ (c ++ d)
      regroup a b c d = simp append_assoc

  pub own_next : Next (own ++ others) own others (length own)
  own_next = record { parted = refl; long = refl }

-- no head is left
pub none_left : (texts : List ℕ) (ps : List OperationPlace) → flat_map encode_patch (list_from texts [] ps) ≡ []
unfolding flat_map list_from
none_left texts ps = refl

-- the places that the heads count are all that the list takes
pub list_of_used : (texts : List ℕ) (hs : List ProjectionPatch) (ps : List OperationPlace) → list_from texts hs (take (operation_total hs) ps) ≡ list_from texts hs ps
unfolding list_from operation_total
list_of_used texts [] ps = refl
list_of_used texts (h ∷ hs) ps =
    let n = h.operation_count in
    let enough : n ≤ n + operation_total hs = omega arith in
    ap₂ (λ (a b : List OperationPlace). record { envelope = envelope_of h.envelope; operations = map (operation_at texts) a } ∷ list_from texts hs b) (take-take n (n + operation_total hs) ps enough) (drop-take n (operation_total hs) ps)
    ∙ ap (λ (l : List model.Patch). record { envelope = envelope_of h.envelope; operations = map (operation_at texts) (take n ps) } ∷ l) (list_of_used texts hs (drop n ps))

-- ---- a turn of the pass over heads

module _ {start : List ℕ} {at : ℕ} {whole out : List ℕ} {next : ℕ} (texts : List ℕ) (heads : List ProjectionPatch) (i : ℕ) (ps : List OperationPlace) (hold : HeadsHold texts (drop i heads) ps)
    (written : Progress start at whole out next (flat_map encode_patch (list_from texts (drop i heads) ps))) (more : i < length heads) where
  abbrev head : ProjectionPatch
  head = get_or heads i no_patch

  abbrev later : List ProjectionPatch
  later = drop (i + 1) heads

  held : HeadsHold texts (head ∷ later) ps
  held = subst (λ (l : List ProjectionPatch). HeadsHold texts l ps) (whole_cons heads i no_patch more) hold

  here : Progress start at whole out next (flat_map encode_patch (list_from texts (head ∷ later) ps))
  here = subst (λ (l : List ProjectionPatch). Progress start at whole out next (flat_map encode_patch (list_from texts l ps))) (whole_cons heads i no_patch more) written

  pub head_fits : (next + head_size head ≤ length out) × (head.operation_count ≤ patch_operations)
  head_fits = (progress_fits here (head_next texts head later ps held), head_few texts head later ps held)

  pub own_within : head.operation_count ≤ length ps
  own_within = head_within texts head later ps held

  module _ (mid : List ℕ) (is : mid ≡ overwrite out next (head_bytes head)) where
    behind : Progress start at whole mid (next + head_size head) (own texts head later ps held ++ others texts head later ps held)
    behind = progress_next here (head_next texts head later ps held) mid is

    pub own_ready : OperationsReady texts (take head.operation_count ps) (length mid) (next + head_size head)
    own_ready = record { hold = own_hold texts head.operation_count ps held.hold; enough = progress_fits behind (own_next texts head later ps held) }

    pub left_hold : HeadsHold texts later (drop head.operation_count ps)
    left_hold = others_left texts head later ps held

    pub left_written : (after : List ℕ) → after ≡ overwrite mid (next + head_size head) (operation_bytes texts (take head.operation_count ps))
        → Progress start at whole after (next + head_size head + length (operation_bytes texts (take head.operation_count ps))) (flat_map encode_patch (list_from texts later (drop head.operation_count ps)))
    left_written after is = progress_next behind (own_next texts head later ps held) after is

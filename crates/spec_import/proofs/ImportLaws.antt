-- Bringing in succeeds exactly where the lines have the form and fit, the checks find nothing and there is room. What comes out is the canonical
-- bytes of the lines' patch, and reading it gives the lines' keys and texts in their order.
use Rattle.std.specs.Prelude.{ℕ, ◌≤◌, List, [], ◌∷◌, map, ◌↔◌, leb, length}
use Rattle.std.proofs.Math.Path.{◌≡◌, refl}
use Rattle.std.proofs.Common.{sym, ap, ap₂, ◌∙◌, arith}
use Rattle.std.proofs.Math.Bool.{true}
use Rattle.std.proofs.Math.Option.{some}
use borrow.Author.Tests.{leb-true, le-leb}
use Rattle.std.proofs.Math.ListN.{length-map}
use Rattle.spec_lists.specs.Lists.{is_empty, All}
use Rattle.spec_lists.proofs.ListLaws.{and_left, and_right, is_empty_true, test_cases}
use Rattle.spec_patch.specs.Sizes.{set_bytes, patch_operations, text_bytes}
use Rattle.spec_patch.specs.TextRule.{few_bytes, few_characters}
use Rattle.spec_patch.specs.Patch.{Envelope}
use Rattle.spec_patch.specs.Edition.{Edition, kinds, has_kind}
use Rattle.spec_patch.specs.Encode.{kind_of, encode}
use Rattle.spec_patch.specs.Fits.{U64, OptionalU64, OperationHolds, InRangeEnvelope, StorableBy, FitsOperation, Fits}
use Rattle.spec_patch.specs.Read.{patches, read_set}
use Rattle.spec_patch.proofs.SetLaws.{reads_back}
use Rattle.spec_checks.specs.Findings.{findings}
use Rattle.spec_import.specs.Import.{Term, ImportRefusal, patch_invalid, output_too_short, over_capacity, lines, read_term, keeps_text, Terms, terms, faulty, read_terms, insert_of, patch_of, set_of, imported, refused, import_patch, after_lines, import_terms, print_terms}
use Rattle.spec_import.proofs.LineLaws.{Formed, PrintableTerm, KeptTerm, reads_lines, lines_read, printed_reads}
use Rattle.spec_import.proofs.FormLaws.{form_exactly}

-- terms that lines were read as have the form
formed_all : (ls : List (List ℕ)) (ts : List Term) → map read_term ls ≡ map some ts → All Formed ts
formed_all ls [] e = tt
formed_all [] (t ∷ ts) e = absurd (let z : ◌≡◌ {A = ℕ} 0 1 = cc in omega arith)
formed_all (l ∷ ls) (t ∷ ts) e =
    let here : read_term l ≡ some t = cc in
    let rest : map read_term ls ≡ map some ts = cc in
    (((form_exactly l t).0 here).0, formed_all ls ts rest)

-- lines hold no other terms
some_inj : (a b : List Term) → map some a ≡ map some b → a ≡ b
some_inj [] [] e = refl
some_inj [] (u ∷ b) e = absurd (let z : ◌≡◌ {A = ℕ} 0 1 = cc in omega arith)
some_inj (t ∷ a) [] e = absurd (let z : ◌≡◌ {A = ℕ} 0 1 = cc in omega arith)
some_inj (t ∷ a) (u ∷ b) e =
    let here : t ≡ u = cc in
    let rest : map some a ≡ map some b = cc in
    ap₂ (λ (x : Term) (l : List Term). x ∷ l) here (some_inj a b rest)

module _ (ed : Edition) (collection : ℕ) (e : Envelope) where
  -- the lines hold terms and fit, the patch checks find nothing, and there is room
  pub record Importable (list : List ℕ) (room : ℕ) : Type 0 where
    pub held : List Term
    pub formed : map read_term (lines list) ≡ map some held
    pub kept : All KeptTerm held
    pub few : length held ≤ patch_operations
    pub short : length (encode ed (set_of collection e held)) ≤ set_bytes
    pub clean : (findings (set_of collection e held)).found ≡ []
    pub enough : length (encode ed (set_of collection e held)) ≤ room

  -- ---- both directions

  -- such a list is brought in, as the canonical bytes of its patch
  pub imports : (list : List ℕ) (room : ℕ) (i : Importable list room) → import_terms ed collection e list room ≡ imported (encode ed (set_of collection e i.held))
  unfolding import_terms after_lines import_patch
  imports list room i =
      let read = reads_lines 0 (lines list) i.held i.formed i.kept (omega (arith, i.few)) in
      rw (read, le-leb _ _ i.short, i.clean, le-leb _ _ i.enough)

  -- a list that is brought in is such a one
  pub record Import (list : List ℕ) (room : ℕ) (bs : List ℕ) : Type 0 where
    pub importable : Importable list room
    pub bytes : bs ≡ encode ed (set_of collection e importable.held)

  pub was_importable : (list : List ℕ) (room : ℕ) (bs : List ℕ) → import_terms ed collection e list room ≡ imported bs → Import list room bs
  unfolding import_terms after_lines import_patch
  was_importable list room bs h = by_terms (read_terms 0 (lines list)) refl h
    where
      never : {C : Type 0} (r : ImportRefusal) → refused r ≡ imported bs → C
      never r e = absurd (let z : ◌≡◌ {A = ℕ} 0 1 = cc in omega arith)

      brought_in : (ts : List Term) → read_terms 0 (lines list) ≡ terms ts → leb (length (encode ed (set_of collection e ts))) set_bytes ≡ true → is_empty (findings (set_of collection e ts)).found ≡ true → leb (length (encode ed (set_of collection e ts))) room ≡ true
          → imported (encode ed (set_of collection e ts)) ≡ imported bs → Import list room bs
      brought_in ts r s c l same =
          let read = lines_read 0 (lines list) ts (omega arith) r in
          record {
            importable = record { held = ts; formed = read.formed; kept = read.kept; few = omega (arith, read.few); short = leb-true _ _ s; clean = is_empty_true _ c; enough = leb-true _ _ l };
            bytes = cc;
          }

      by_tests : (ts : List Term) → read_terms 0 (lines list) ≡ terms ts → import_patch ed (patch_of collection e ts) room ≡ imported bs → Import list room bs
      by_tests ts r h =
          test_cases (leb (length (encode ed (set_of collection e ts))) set_bytes)
          (λ s.
          test_cases (is_empty (findings (set_of collection e ts)).found)
          (λ c.
          test_cases (leb (length (encode ed (set_of collection e ts))) room)
          (λ l. brought_in ts r s c l (rw (s, c, l) at h))
          (λ l. never output_too_short (rw (s, c, l) at h)))
          (λ c. never patch_invalid (rw (s, c) at h)))
          (λ s. never over_capacity (rw s at h))

      by_terms : (x : Terms) → read_terms 0 (lines list) ≡ x → after_lines ed collection e room x ≡ imported bs → Import list room bs
      by_terms (terms ts) r h = by_tests ts r h
      by_terms (faulty f) r h = never f h

  pub imports_exactly : (list : List ℕ) (room : ℕ) → ((bs : List ℕ) × (import_terms ed collection e list room ≡ imported bs)) ↔ Importable list room
  imports_exactly list room = (λ s. (was_importable list room s.0 s.1).importable, λ i. (encode ed (set_of collection e i.held), imports list room i))

  -- ---- reading back

  module _ (collection-fits : U64 collection) (envelope-fits : InRangeEnvelope e) where
    insert_fits : (t : Term) → Formed t → KeptTerm t → FitsOperation ed (insert_of collection t)
    unfolding OperationHolds insert_of OptionalU64 StorableBy kind_of kinds has_kind keeps_text
    insert_fits t f k = (
      collection-fits,
      (
        f.key,
        (
          tt,
          record {
            kind = refl;
            storable = record { short = leb-true (length t.words) text_bytes (and_left (few_bytes t.words) _ k); utf8 = f.utf8; few = and_right (few_bytes t.words) (few_characters true t.words) k };
          },
        ),
      ),
    )

    inserts_fit : (ts : List Term) → All Formed ts → All KeptTerm ts → All (FitsOperation ed) (map (insert_of collection) ts)
    inserts_fit [] f k = tt
    inserts_fit (t ∷ ts) f k = (insert_fits t f.0 k.0, inserts_fit ts f.1 k.1)

    set_fits : (list : List ℕ) (room : ℕ) (i : Importable list room) → Fits ed (set_of collection e i.held)
    unfolding patch_of
    set_fits list room i = record {
      few = omega arith;
      patches = (
        record {
          envelope = envelope-fits;
          few = omega (arith, length-map i.held (insert_of collection), i.few);
          operations = inserts_fit i.held (formed_all (lines list) i.held i.formed) i.kept;
        },
        tt,
      );
      short = i.short;
    }

    -- what is written is read as one patch: the envelope that was given, and one insert for each line in their order
    pub reads_import : (list : List ℕ) (room : ℕ) (bs : List ℕ) → import_terms ed collection e list room ≡ imported bs
        → (ts : List Term) × (map read_term (lines list) ≡ map some ts) × (read_set ed bs ≡ patches (patch_of collection e ts ∷ []))
    reads_import list room bs h =
        let w = was_importable list room bs h in
        let i = w.importable in
        (i.held, i.formed, ap (read_set ed) w.bytes ∙ reads_back ed (set_of collection e i.held) (set_fits list room i))

    -- and what is brought in of a printed list is read as the terms that were printed
    pub printed_back : (ts : List Term) → All PrintableTerm ts → All KeptTerm ts → length ts ≤ patch_operations → (room : ℕ) (bs : List ℕ) → import_terms ed collection e (print_terms ts) room ≡ imported bs
        → (bs ≡ encode ed (set_of collection e ts)) × (read_set ed bs ≡ patches (set_of collection e ts))
    printed_back ts p k few room bs h =
        let w = was_importable (print_terms ts) room bs h in
        let i = w.importable in
        let read = lines_read 0 (lines (print_terms ts)) ts (omega arith) (printed_reads ts p k few) in
        let same : i.held ≡ ts = some_inj i.held ts (sym i.formed ∙ read.formed) in
        (w.bytes ∙ ap (λ (us : List Term). encode ed (set_of collection e us)) same, ap (read_set ed) w.bytes ∙ reads_back ed (set_of collection e i.held) (set_fits (print_terms ts) room i) ∙ ap (λ (us : List Term). patches (set_of collection e us)) same)

  -- ---- printed lists

  -- a list that is printed of terms is brought in as these terms
  pub printed_imports : (ts : List Term) → All PrintableTerm ts → All KeptTerm ts → length ts ≤ patch_operations → (room : ℕ) → import_terms ed collection e (print_terms ts) room ≡ import_patch ed (patch_of collection e ts) room
  unfolding import_terms after_lines
  printed_imports ts p k few room = rw (printed_reads ts p k few)

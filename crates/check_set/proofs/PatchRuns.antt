-- The findings of a set's patches, listed one after the other, up to the first patch that has any.
use Rattle.std.specs.Prelude as code
use Prim.Native.Nat.{ℕ, suc, ◌+◌, ◌*◌, ◌≤◌, ◌<◌}
use mathlib.Core.Path.{◌≡◌, refl, sym, ap, ap₂, ◌∙◌, subst}
use mathlib.Core.Bool.{false}
use mathlib.Core.List.{List, [], ◌∷◌, ◌++◌, append_assoc, append-nil, map, reverse, reverse-append}
use mathlib.Core.Option.{Option, none, some}
use native.Mathlib.Omega.{arith}
use lib.ListN.{length, take, set, length-append}
use Rattle.spec_lists.specs.Lists.{All}
use Rattle.spec_lists.specs.Order.{sort_unique}
use Rattle.spec_patch.specs.Sizes.{set_patches, patch_operations}
use Rattle.spec_patch.specs.Patch.{Envelope, Patch}
use Rattle.spec_patch.specs.Edition.{Edition}
use Rattle.spec_patch.specs.Fits.{FitsPatch}
use Rattle.spec_checks.specs.Finding.{Finding, finding_key, check_each}
use Rattle.spec_checks.specs.PatchChecks.{raw_patch_findings, patch_findings}
use Rattle.spec_checks.specs.SetChecks.{after_findings, raw_set_findings, set_findings}
use Rattle.spec_checks.specs.Findings.{in_patch, in_set, Findings, first_findings, findings}
use Rattle.spec_checks.specs.Answer.{record_length}
use Rattle.spec_checks.proofs.CountLaws.{raw_set_length}
use Rattle.projection_patch.specs.Meaning.{envelope_of}
use Rattle.projection_patch.specs.declared.patch.ProjectionPatch.{ProjectionPatch}
use Rattle.patch_sets.specs.Walk.{head_of}
use Rattle.patch_sets.specs.SetAnswers.{head_to}
use Rattle.patch_walk.specs.Steps.{step_answer, AtSteps}
use Rattle.patch_walk.proofs.StepsLaws.{Opened, opened}
use Rattle.patch_walk.specs.declared.SetCursor.{SetCursor}
use Rattle.patch_walk.specs.Steps.{StepAnswer}
use Rattle.patch_walk.specs.declared.SetStep.TheVariants as set-step
use Rattle.check_targets.specs.ToldLaws.{envelope_back}
use Rattle.check_table.specs.FindingTable.{KeptFindings}
use Rattle.check_table.specs.FindingTableLaws.{kept_none}
use Rattle.check_findings.specs.IdsLaws.{ids_snoc}
use Rattle.check_findings.specs.InsertFindings.{inserted_all}
use Rattle.check_findings.specs.InsertFindingsLaws.{Inserted, kept_all}
use Rattle.check_quick.specs.QuickLaws.{id_of, last_envelope, map_snoc}
use Rattle.check_set.specs.Listed.{table_length, ListedAs, after_listed, listed_to, FindingsListedAs}
use Rattle.check_set.specs.ListedLaws.{after_listed_lem, table_is, none_found, patch_is, first_next}
use Rattle.check_set.specs.declared.list_operations.Listed.{Listed}

-- the edition, the bytes and all the patches
module _ (ed : Edition) (bytes : List ℕ) (ps : List Patch) where
  abbrev whole : Findings
  whole = record { place = in_set; found = set_findings ps }

  -- where a walk over the patches stands: none of those that are done has findings, and the table holds those of the set so far
  pub record PatchRun (c : SetCursor) (done kept : ℕ) (ids : List ℕ) (previous : Option Envelope) (records : List ℕ) : Type 0 where
    pub before : List Patch
    pub rest : List Patch
    pub here : AtSteps ed bytes c [] rest
    pub place : findings ps ≡ first_findings done rest whole
    pub raw : List Finding
    pub holds : KeptFindings raw kept records
    pub all : raw_set_findings ps ≡ raw ++ check_each after_findings (reverse before) rest
    pub known : take done ids ≡ map id_of before
    pub last : previous ≡ last_envelope (reverse before)

  pub patch_run_start : (c : SetCursor) (ids records : List ℕ) → AtSteps ed bytes c [] ps → PatchRun c 0 0 ids none records
  unfolding findings raw_set_findings
  patch_run_start c ids records here =
      record { before = []; rest = ps; here = here; place = refl; raw = []; holds = kept_none records; all = refl; known = refl; last = refl }

  module _ {c : SetCursor} {done kept : ℕ} {ids : List ℕ} {previous : Option Envelope} {records : List ℕ} (run : PatchRun c done kept ids previous records) where
    -- where none is left, the table is the set's
    pub patch_run_end : c.patches_left ≤ 0 → FindingsListedAs (findings ps) (listed_to in_set kept) records
    unfolding first_findings check_each set_findings
    patch_run_end none' = go run.rest run.here run.place run.all
      where
        go : (l : List Patch) → AtSteps ed bytes c [] l → findings ps ≡ first_findings done l whole → raw_set_findings ps ≡ run.raw ++ check_each after_findings (reverse run.before) l → FindingsListedAs (findings ps) (listed_to in_set kept) records
        go [] here place all =
            let same : record { place = in_set; found = sort_unique finding_key run.raw } ≡ findings ps = ap (λ l. record { place = in_set; found = sort_unique finding_key l }) (sym (all ∙ append-nil run.raw)) ∙ sym place in
            subst (λ f. FindingsListedAs f (listed_to in_set kept) records) same (table_is in_set run.raw kept records run.holds)
        go (p ∷ l) here place all = absurd (omega (arith, here.patches))

    -- one patch more
    module _ (few : length ps ≤ set_patches) (room : table_length ≤ length records) {r : StepAnswer} (answer_is : r ≡ step_answer false ed c bytes) (h : ProjectionPatch) (d : SetCursor) (told : r ≡ code.Ok (set-step.Head h d))
        (listed : Listed) (mid : List ℕ)
        (ensured : (p : Patch) (qs : List Patch) → h ≡ head_to (head_of p) → d.patch_id ≡ p.envelope.id → AtSteps ed bytes d p.operations qs → ListedAs ed bytes (raw_patch_findings p) 0 records listed mid qs) where
      o : Opened ed bytes c [] run.rest h d
      o = opened false ed bytes c run.here answer_is h d told

      abbrev p : Patch
      p = o.first

      now : ListedAs ed bytes (raw_patch_findings p) 0 records listed mid o.rest
      now = ensured p o.rest o.placed (ap (λ (e : SetCursor). e.patch_id) o.behind ∙ ap (λ (x : ProjectionPatch). x.envelope.patch_id.0) o.placed) o.next

      small : length p.operations ≤ patch_operations
      small = (subst (λ (l : List Patch). All (FitsPatch ed) l) o.is run.here.fit_rest).0.few

      -- with findings it ends the listing
      pub patch_run_found : 0 < listed.count → FindingsListedAs (findings ps) (listed_to (in_patch done) listed.count) mid
      patch_run_found more =
          subst (λ f. FindingsListedAs f (listed_to (in_patch done) listed.count) mid) (sym (run.place ∙ ap (λ l. first_findings done l whole) o.is))
          (patch_is p records small room listed.count mid now.0 done o.rest whole more)

      -- without, those of the set are listed
      module _ (clean : listed.count ≡ 0) (ids' : List ℕ) (kept' : ℕ) (after : List ℕ) (space : done < length ids)
          (inserted : Inserted (after_listed (take done ids) previous (envelope_of h.envelope)) kept mid kept' after)
          (remembered : ids' ≡ set ids done (envelope_of h.envelope).id) where
        envelope_is : envelope_of h.envelope ≡ p.envelope
        envelope_is = ap (λ (x : ProjectionPatch). envelope_of x.envelope) o.placed ∙ envelope_back p.envelope

        none_now : (patch_findings p ≡ []) × (mid ≡ records)
        none_now = none_found p records small room listed.count mid now.0 clean

        abbrev own : List Finding
        own = after_findings (reverse run.before) p

        abbrev more : List Patch
        more = run.before ++ (p ∷ [])

        list_is : after_listed (take done ids) previous (envelope_of h.envelope) ≡ own
        list_is = ap₂ (λ (l : List ℕ) (q : Option Envelope). after_listed l q (envelope_of h.envelope)) run.known run.last ∙ ap (after_listed (map id_of run.before) (last_envelope (reverse run.before))) envelope_is ∙ after_listed_lem run.before p

        table_now : Inserted own kept records kept' after
        table_now =
            (inserted.0 ∙ ap₂ (λ l m. (inserted_all l kept m).0) list_is none_now.1, inserted.1 ∙ ap₂ (λ l m. (inserted_all l kept m).1) list_is none_now.1)

        all_now : raw_set_findings ps ≡ (run.raw ++ own) ++ check_each after_findings (reverse more) o.rest
        unfolding check_each
        all_now =
            run.all
            ∙ ap (λ l. run.raw ++ check_each after_findings (reverse run.before) l) o.is
            ∙ sym (append_assoc run.raw own (check_each after_findings (p ∷ reverse run.before) o.rest))
            ∙ ap (λ l. (run.raw ++ own) ++ check_each after_findings l o.rest) (sym (reverse-append run.before (p ∷ [])))

        fits : record_length * (length run.raw + length own) ≤ length records
        fits =
            let rest = check_each after_findings (reverse more) o.rest in
            omega (arith, ap length all_now, raw_set_length ps, length-append (run.raw ++ own) rest, length-append run.raw own)

        holds_now : KeptFindings (run.raw ++ own) kept' after
        holds_now =
            subst (λ (l : List ℕ). KeptFindings (run.raw ++ own) kept' l) (sym table_now.1)
            (subst (λ (n : ℕ). KeptFindings (run.raw ++ own) n (inserted_all own kept records).1) (sym table_now.0) (kept_all own run.raw kept records run.holds fits))

        known_now : take (done + 1) ids' ≡ map id_of more
        known_now =
            let next : done + 1 ≡ suc done = omega arith in
            ap₂ (λ (k : ℕ) (m : List ℕ). take k m) next remembered
            ∙ ids_snoc ids done (envelope_of h.envelope).id space
            ∙ ap₂ (λ (l : List ℕ) (e : Envelope). l ++ (e.id ∷ [])) run.known envelope_is
            ∙ sym (map_snoc run.before p)

        pub patch_run_turn : PatchRun listed.next (done + 1) kept' ids' (some (envelope_of h.envelope)) after
        patch_run_turn = record {
          before = more;
          rest = o.rest;
          here = now.1;
          place = run.place ∙ ap (λ l. first_findings done l whole) o.is ∙ first_next done p o.rest whole none_now.0;
          raw = run.raw ++ own;
          holds = holds_now;
          all = all_now;
          known = known_now;
          last = ap some envelope_is ∙ ap last_envelope (sym (reverse-append run.before (p ∷ [])));
        }

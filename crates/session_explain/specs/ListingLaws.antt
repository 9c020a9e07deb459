-- The reason of a listing: that of reading, or else that of the findings, or else that of the operations on an empty panel.
use Rattle.std.specs.Prelude.{ℕ, Result, Ok, Err}
use Rattle.std.proofs.Math.Path.{◌≡◌, refl, sym, ap, ap₂}
use Rattle.std.proofs.Common.{◌∙◌, arith}
use mathlib.Core.List.{List}
use Rattle.std.proofs.Math.Option.{Option, none, some}
use Rattle.spec_patch.specs.Edition.{Edition}
use Rattle.spec_patch.specs.Patch.{Patch}
use Rattle.spec_patch.specs.Read.{SetReading, patches, fault, read_set}
use Rattle.spec_checks.specs.Findings.{findings}
use Rattle.spec_projection.specs.Projection.{empty}
use Rattle.spec_explain.specs.ReadingRule.{Unread}
use Rattle.spec_explain.specs.Locate.{locate}
use Rattle.spec_explain.proofs.LocateLaws.{Agrees, reads, stops, locate_agrees}
use Rattle.spec_explain.specs.Walk.{walk_patches}
use Rattle.spec_explain.specs.Explain.{Explained, fine, ◌>>=◌, ◌>>◌, patches_read, patches_readable, no_findings, step_kept, applies, reason_of}
use Rattle.spec_explain.specs.CallReasons.{explain_check, explain_listing}
use Rattle.session_explain.specs.Reasons.{found_to, step_to, first_to}
use Rattle.session_explain.specs.StepsLaws.{first_then, found_is}
use Rattle.session_explain.specs.declared.reasons.BatchReason.{BatchReason}

module _ (ed : Edition) (set : List ℕ) {x : Result (Unit {0}) BatchReason} (told : x ≡ found_to (explain_check ed set)) where
  abbrev found : List Patch → Explained (Unit {0})
  found ps = no_findings (findings ps).place (findings ps).found

  abbrev applied : List Patch → Explained (Unit {0})
  applied ps = applies (walk_patches step_kept 0 empty ps)

  pub listing_unread : {r : BatchReason} → x ≡ Err r → Err r ≡ found_to (explain_listing ed set)
  unfolding explain_check explain_listing patches_readable reason_of
  listing_unread {r} is = sym is ∙ go (locate ed set) (patches_read (read_set ed set)) told
    where
      go : (o : Option Unread) (qs : List Patch) → x ≡ found_to (reason_of (patches_readable o qs >>= λ ps. fine tt)) → x ≡ found_to (reason_of (patches_readable o qs >>= λ ps. found ps >> applied ps))
      go none qs e = cc
      go (some u) qs e = e

  module _ (is : x ≡ Ok tt) {f : Result (Unit {0}) BatchReason} (finds : (ps : List Patch) → read_set ed set ≡ patches ps → f ≡ step_to (found ps)) where
    -- the findings, and then the operations
    pub listing_read : (a : Result (Unit {0}) BatchReason) → ((ps : List Patch) → read_set ed set ≡ patches ps → a ≡ step_to (applied ps)) → first_to f a ≡ found_to (explain_listing ed set)
    unfolding explain_check explain_listing patches_readable reason_of patches_read
    listing_read a runs = go (locate ed set) (read_set ed set) refl (locate_agrees ed set) told
      where
        go : (o : Option Unread) (y : SetReading) → read_set ed set ≡ y → Agrees ed o y → x ≡ found_to (reason_of (patches_readable o (patches_read y) >>= λ ps. fine tt)) → first_to f a ≡ found_to (reason_of (patches_readable o (patches_read y) >>= λ ps. found ps >> applied ps))
        go (some u) (patches ps) q x6 e = elim x6 [ ]
        go none (fault k) q x7 e = elim x7 [ ]
        go none (patches ps) q (reads qs) e = ap₂ first_to (finds ps q) (runs ps q) ∙ first_then (found ps) (applied ps) ∙ sym (found_is (found ps >> applied ps))
        go (some u) (fault k) q (stops v g j) e = cc

    pub listing_found : {r : BatchReason} → f ≡ Err r → Err r ≡ found_to (explain_listing ed set)
    unfolding patches_read
    listing_found h =
        let a : Result (Unit {0}) BatchReason = step_to (applied (patches_read (read_set ed set))) in
        sym (ap (λ (y : Result (Unit {0}) BatchReason). first_to y a) h) ∙ listing_read a (λ ps q. ap (λ (y : SetReading). step_to (applied (patches_read y))) q)

    pub listing_applied : f ≡ Ok tt → {a : Result (Unit {0}) BatchReason} → ((ps : List Patch) → read_set ed set ≡ patches ps → a ≡ step_to (applied ps)) → a ≡ found_to (explain_listing ed set)
    listing_applied h {a} runs = sym (ap (λ (y : Result (Unit {0}) BatchReason). first_to y a) h) ∙ listing_read a runs

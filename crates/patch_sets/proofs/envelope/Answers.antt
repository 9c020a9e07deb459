-- `patch_sets::envelope` meets its contract: two ids, a document, a surface, two revisions, an epoch and a sequence.
use Prim.Native.Nat.{ℕ}
use mathlib.Core.Path.{◌≡◌, ap, ◌∙◌}
use Rattle.spec_lists.proofs.BytesLaws.{bytes_of}
use Rattle.spec_lists.specs.Options.{optional_to}
use Rattle.spec_patch.specs.Reader.{pair}
use Rattle.spec_patch.specs.Read.{read_u64, read_optional, read_envelope}
use Rattle.spec_patch.proofs.Codec.{pair_codec}
use Rattle.spec_patch.proofs.ReadLaws.{u64_codec, optional_codec}
use Rattle.projection_patch.specs.Meaning.{surface_to}
use Rattle.projection_patch.specs.ReadAnswers.{anywhere, plain}
use Rattle.projection_patch.specs.declared.contract_primitives.StaticDocumentId.{StaticDocumentId}
use Rattle.projection_patch.specs.declared.contract_primitives.Revision.{Revision}
use Rattle.projection_patch.specs.declared.contract_primitives.Epoch.{Epoch}
use Rattle.projection_patch.specs.declared.patch.ProjectionPatchId.{ProjectionPatchId}
use Rattle.projection_patch.specs.declared.patch.ProjectionPatchStreamId.{ProjectionPatchStreamId}
use Rattle.projection_patch.specs.declared.patch.ProjectionPatchSequence.{ProjectionPatchSequence}
use Rattle.projection_patch.proofs.Answers.{got, plain_got, numbers_got, handed_on, numbers_handed_on}
use Rattle.projection_patch.proofs.Places.{optional_is}
use Rattle.patch_sets.proofs.envelope.Goals as goal

patch_is : (r : ProjectionPatchId) (n : ℕ) → r.0 ≡ n → r ≡ record { 0 = n }
patch_is r n e = ap (λ (k : ℕ). record { 0 = k }) e

stream_is : (r : ProjectionPatchStreamId) (n : ℕ) → r.0 ≡ n → r ≡ record { 0 = n }
stream_is r n e = ap (λ (k : ℕ). record { 0 = k }) e

document_is : (r : StaticDocumentId) (n : ℕ) → r.0 ≡ n → r ≡ record { 0 = n }
document_is r n e = ap (λ (k : ℕ). record { 0 = k }) e

revision_is : (r : Revision) (n : ℕ) → r.0 ≡ n → r ≡ record { 0 = n }
revision_is r n e = ap (λ (k : ℕ). record { 0 = k }) e

epoch_is : (r : Epoch) (n : ℕ) → r.0 ≡ n → r ≡ record { 0 = n }
epoch_is r n e = ap (λ (k : ℕ). record { 0 = k }) e

sequence_is : (r : ProjectionPatchSequence) (n : ℕ) → r.0 ≡ n → r ≡ record { 0 = n }
sequence_is r n e = ap (λ (k : ℕ). record { 0 = k }) e

pub returns-in_err-patch : goal.returns-in_err-patch
unfolding read_envelope
returns-in_err-patch c =
    let g = numbers_handed_on c.args.part.now 0 c.numbers_at.result c.numbers_at.ensures c.in_err-patch.field-0.0 c.in_err-patch.was (pair read_u64 (pair read_optional (pair read_u64 (pair read_u64 (pair read_u64 read_u64))))) c.from_residual.ensures.1 in
    rw (g.told, g.is)

pub returns-in_err-document : goal.returns-in_err-document
unfolding read_envelope
returns-in_err-document c =
    let all = bytes_of c.args.part.now (λ j. (c.type_inv.part j).fits) in
    let p = numbers_got c.args.part.now 0 c.numbers_at.result c.numbers_at.ensures all c.in_ok-patch.patch c.in_ok-patch.stream c.in_ok-patch.at c.in_ok-patch.was in
    let g = handed_on plain u64_codec c.args.part.now c.in_ok-patch.at c.u64_at.result c.u64_at.ensures c.in_err-document.field-0.0 c.in_err-document.was c.from_residual-in_err-document.ensures.1 in
    rw (g.told, p.first, p.second, g.is)

pub returns-in_err-surface : goal.returns-in_err-surface
unfolding read_envelope
returns-in_err-surface c =
    let all = bytes_of c.args.part.now (λ j. (c.type_inv.part j).fits) in
    let p = numbers_got c.args.part.now 0 c.numbers_at.result c.numbers_at.ensures all c.in_ok-patch.patch c.in_ok-patch.stream c.in_ok-patch.at c.in_ok-patch.was in
    let d = plain_got u64_codec c.args.part.now c.in_ok-patch.at c.u64_at.result c.u64_at.ensures all c.in_ok-document.document c.in_ok-document.at c.in_ok-document.was in
    let g = handed_on (anywhere optional_to) optional_codec c.args.part.now c.in_ok-document.at c.optional_at.result c.optional_at.ensures c.in_err-surface.field-0.0 c.in_err-surface.was c.from_residual-in_err-surface.ensures.1 in
    rw (g.told, p.first, p.second, d.is, g.is)

pub returns-in_err-previous : goal.returns-in_err-previous
unfolding read_envelope
returns-in_err-previous c =
    let all = bytes_of c.args.part.now (λ j. (c.type_inv.part j).fits) in
    let p = numbers_got c.args.part.now 0 c.numbers_at.result c.numbers_at.ensures all c.in_ok-patch.patch c.in_ok-patch.stream c.in_ok-patch.at c.in_ok-patch.was in
    let d = plain_got u64_codec c.args.part.now c.in_ok-patch.at c.u64_at.result c.u64_at.ensures all c.in_ok-document.document c.in_ok-document.at c.in_ok-document.was in
    let s = got (anywhere optional_to) optional_codec c.args.part.now c.in_ok-document.at c.optional_at.result c.optional_at.ensures all c.in_ok-surface.surface c.in_ok-surface.at c.in_ok-surface.was in
    let g = numbers_handed_on c.args.part.now c.in_ok-surface.at c.numbers_at-2.result c.numbers_at-2.ensures c.in_err-previous.field-0.0 c.in_err-previous.was (pair read_u64 read_u64) c.from_residual-in_err-previous.ensures.1 in
    rw (g.told, p.first, p.second, d.is, s.is, g.is)

pub returns-in_err-epoch : goal.returns-in_err-epoch
unfolding read_envelope
returns-in_err-epoch c =
    let all = bytes_of c.args.part.now (λ j. (c.type_inv.part j).fits) in
    let p = numbers_got c.args.part.now 0 c.numbers_at.result c.numbers_at.ensures all c.in_ok-patch.patch c.in_ok-patch.stream c.in_ok-patch.at c.in_ok-patch.was in
    let d = plain_got u64_codec c.args.part.now c.in_ok-patch.at c.u64_at.result c.u64_at.ensures all c.in_ok-document.document c.in_ok-document.at c.in_ok-document.was in
    let s = got (anywhere optional_to) optional_codec c.args.part.now c.in_ok-document.at c.optional_at.result c.optional_at.ensures all c.in_ok-surface.surface c.in_ok-surface.at c.in_ok-surface.was in
    let v = numbers_got c.args.part.now c.in_ok-surface.at c.numbers_at-2.result c.numbers_at-2.ensures all c.in_ok-previous.previous c.in_ok-previous.revision c.in_ok-previous.at c.in_ok-previous.was in
    let g = handed_on plain (pair_codec u64_codec u64_codec) c.args.part.now c.in_ok-previous.at c.numbers_at-3.result c.numbers_at-3.ensures c.in_err-epoch.field-0.0 c.in_err-epoch.was c.from_residual-in_err-epoch.ensures.1 in
    rw (g.told, p.first, p.second, d.is, s.is, v.first, v.second, g.is)

pub returns : goal.returns
unfolding read_envelope
returns c =
    let all = bytes_of c.args.part.now (λ j. (c.type_inv.part j).fits) in
    let p = numbers_got c.args.part.now 0 c.numbers_at.result c.numbers_at.ensures all c.in_ok-patch.patch c.in_ok-patch.stream c.in_ok-patch.at c.in_ok-patch.was in
    let d = plain_got u64_codec c.args.part.now c.in_ok-patch.at c.u64_at.result c.u64_at.ensures all c.in_ok-document.document c.in_ok-document.at c.in_ok-document.was in
    let s = got (anywhere optional_to) optional_codec c.args.part.now c.in_ok-document.at c.optional_at.result c.optional_at.ensures all c.in_ok-surface.surface c.in_ok-surface.at c.in_ok-surface.was in
    let v = numbers_got c.args.part.now c.in_ok-surface.at c.numbers_at-2.result c.numbers_at-2.ensures all c.in_ok-previous.previous c.in_ok-previous.revision c.in_ok-previous.at c.in_ok-previous.was in
    let e = numbers_got c.args.part.now c.in_ok-previous.at c.numbers_at-3.result c.numbers_at-3.ensures all c.in_ok-epoch.epoch c.in_ok-epoch.sequence c.in_ok-epoch.end c.in_ok-epoch.was in
    rw (
      p.first,
      p.second,
      d.is,
      s.is,
      v.first,
      v.second,
      e.first,
      e.second,
      e.there,
      patch_is c.new.result c.in_ok-patch.patch c.new.ensures,
      stream_is c.new-2.result c.in_ok-patch.stream c.new-2.ensures,
      document_is c.new-3.result c.in_ok-document.document c.new-3.ensures,
      c.surface_of.ensures ∙ ap surface_to (optional_is c.in_ok-surface.surface s.a s.same),
      revision_is c.new-4.result c.in_ok-previous.previous c.new-4.ensures,
      revision_is c.new-5.result c.in_ok-previous.revision c.new-5.ensures,
      epoch_is c.new-6.result c.in_ok-epoch.epoch c.new-6.ensures,
      sequence_is c.new-7.result c.in_ok-epoch.sequence c.new-7.ensures,
    )

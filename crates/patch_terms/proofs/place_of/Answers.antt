-- `place_of` meets its contract: it is the library's search.
use Rattle.std.proofs.Common.{ap, ◌∙◌, length}
use Rattle.std.specs.Prelude.{ℕ, Option}
use Rattle.std.specs.Option.{unwrap_or}
use Rattle.patch_terms.specs.PlacesLaws.{place_or_length}
use Rattle.patch_terms.proofs.place_of.Goals as goal

pub returns-clause-place : goal.returns-clause-place
returns-clause-place c =
    c.unwrap_or.ensures ∙ ap (λ (o : Option ℕ). unwrap_or o (length c.args.bytes.now)) c.first_of.ensures ∙ place_or_length c.args.byte c.args.bytes.now

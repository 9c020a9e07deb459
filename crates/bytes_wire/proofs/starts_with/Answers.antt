-- `bytes_wire::starts_with` meets its contract: beyond the part there is no byte.
use Rattle.std.proofs.Common.{ap, ◌∙◌, refl, Bor, List, ℕ, eqb}
use Rattle.std.specs.List as library
use Rattle.bytes_wire.proofs.PrefixLaws.{starts_from}
use Rattle.bytes_wire.proofs.starts_with.Goals as goal

pub returns : goal.returns
returns c =
    c.starts_with.ensures.value
    ∙ ap (λ (b : Bor (List ℕ)). library.starts_with eqb b.now c.args.prefix.now) c.unwrap_or.ensures
    ∙ starts_from c.args.prefix.now c.args.part.now c.args.at _ refl c.get.result c.get.ensures.lookup

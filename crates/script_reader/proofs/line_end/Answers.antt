-- `script_reader::line_end` meets its contract: the library's search, in what is left of the bytes.
use Rattle.std.proofs.Common.{ℕ, ◌+◌, ◌≡◌, List, Bor, length, drop, refl, ap, ◌∙◌}
use Rattle.std.specs.Prelude.{Option}
use Rattle.std.specs.Option.{unwrap_or}
use Rattle.script_reader.specs.Lines.{first_script_line}
use Rattle.script_reader.proofs.Search.{line_or_length, rest_from}
use Rattle.script_reader.proofs.line_end.Goals as goal

pub returns-clause-value : goal.returns-clause-value
returns-clause-value c =
    let rest : List ℕ = c.unwrap_or-rest.result.now in
    let whole : rest ≡ drop c.args.from c.args.bytes.now =
    ap (λ (b : Bor (List ℕ)). b.now) c.unwrap_or-rest.ensures ∙ rest_from c.args.bytes.now c.args.from _ refl c.get.result c.get.ensures.lookup in
    ap (λ (n : ℕ). c.args.from + n)
    (c.unwrap_or.ensures ∙ ap (λ (o : Option ℕ). unwrap_or o (length rest)) c.first_newline.ensures ∙ line_or_length rest ∙ ap (λ (l : List ℕ). length (first_script_line l)) whole)

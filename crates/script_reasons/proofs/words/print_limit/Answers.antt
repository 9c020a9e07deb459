-- `script_reasons::words::print_limit` meets its contract: each limit by its word.
use Prim.Native.Nat.{ℕ}
use mathlib.Core.List.{List}
use Rattle.spec_explain.specs.Reason.{limit_word}
use Rattle.session_explain.specs.declared.reasons.DeclaredLimit.{DeclaredLimit}
use Rattle.session_explain.specs.Meaning.{limit_of}
use Rattle.script_reasons.proofs.RuleWords.{of_rule}
use Rattle.script_reasons.proofs.words.print_limit.Goals as goal

abbrev word : DeclaredLimit → List ℕ
word x = limit_word (limit_of x)

pub returns-in-Both : goal.returns-in-Both
returns-in-Both c = of_rule word c.in-Both.is c.print_field_bytes-in-Both.ensures

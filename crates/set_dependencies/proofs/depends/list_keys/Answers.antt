-- `list_keys` meets its contract: where there is room for all, one list is written behind the other.
use Prim.Native.Nat.{ℕ, ◌+◌, ◌-◌, ◌*◌, ◌≤◌}
use mathlib.Core.Path.{◌≡◌, sym, ap, ◌∙◌}
use mathlib.Core.Bool.{true, false}
use mathlib.Core.List.{List}
use native.Mathlib.Omega.{arith}
use borrow.Author.Rules.{rules}
use borrow.Rule.Slice.PartMut.{put_mid}
use lib.ListN.{length, length-drop}
use Rattle.spec_dependencies.specs.Settled.{Settled}
use Rattle.spec_dependencies.specs.Dependencies.{settles, keys_at_start, dependencies_by}
use Rattle.spec_dependencies.specs.Answer as spec
use Rattle.spec_dependencies.specs.Answer.{pair_length, output_too_short, Answered, answered, answer_by}
use Rattle.spec_dependencies.proofs.AnswerLaws.{all_words_length}
use Rattle.spec_dependencies.proofs.CountLaws.{keys_length}
use Rattle.set_dependencies.specs.SettledRows.{SettledTable}
use Rattle.set_dependencies.specs.SettlingLaws.{table_length}
use Rattle.set_dependencies.specs.DependsAnswers.{depends_answer_to}
use Rattle.set_dependencies.specs.DependsLaws.{held_words, lacked_words, words_length, short_answer, listed_answer}
use Rattle.set_dependencies.specs.declared.depends.DependenciesAnswer.TheVariants as answer
use Rattle.set_dependencies.proofs.Lists.{second_part, second_written}
use Rattle.set_dependencies.proofs.depends.list_keys.Goals as goal
use Rattle.set_dependencies.proofs.depends.list_keys.Goals.{After-write_keys-held, After-write_keys-lacked, Then-out-count}

-- there is no room for all
refused : (c : Then-out-count) (t : List Settled) → SettledTable c.args.count c.args.table.now t
    → answer_by (dependencies_by (settles t)) c.args.out.now ≡ answered (spec.refused output_too_short) c.args.out.now
refused c t s = short_answer t c.args.out.now (omega (arith, table_length t s, c.if-out-count.true))

abbrev lent : After-write_keys-held → List ℕ
lent k = k.args.out.now

-- what both calls wrote
both : (c : After-write_keys-lacked) (t : List Settled) → (s : SettledTable c.args.count c.args.table.now t)
    → (answer.Needs c.write_keys-held.result c.write_keys-lacked.result ≡ depends_answer_to (answer_by (dependencies_by (settles t)) (lent (goal.at.After-write_keys-lacked c).After-write_keys-held)).answer)
    × (put_mid (pair_length * c.write_keys-held.result) (length c.write_keys-held.new.out - pair_length * c.write_keys-held.result) c.write_keys-held.new.out c.write_keys-lacked.new.out ≡ (answer_by (dependencies_by (settles t)) (lent (goal.at.After-write_keys-lacked c).After-write_keys-held)).output)
both c t s =
    let room : pair_length * length t ≤ length (lent (goal.at.After-write_keys-lacked c).After-write_keys-held) = omega (arith, table_length t s, c.if-out-count.false) in
    let held = c.write_keys-held.ensures.all t s (omega (arith, room, keys_length t)) in
    let front : length (held_words t (lent (goal.at.After-write_keys-lacked c).After-write_keys-held)) ≡ pair_length * c.write_keys-held.result = omega (arith, all_words_length (keys_at_start true t), held.0) in
    let space : pair_length * c.write_keys-held.result + length (lacked_words t (lent (goal.at.After-write_keys-lacked c).After-write_keys-held)) ≤ length (lent (goal.at.After-write_keys-lacked c).After-write_keys-held) = omega (arith, front, words_length t (lent (goal.at.After-write_keys-lacked c).After-write_keys-held), room) in
    let part = second_part (held_words t (lent (goal.at.After-write_keys-lacked c).After-write_keys-held)) (lacked_words t (lent (goal.at.After-write_keys-lacked c).After-write_keys-held)) (lent (goal.at.After-write_keys-lacked c).After-write_keys-held) _ front space held.1 in
    let lacked = c.write_keys-lacked.ensures.all t s (omega (arith, ap length part, length-drop (pair_length * c.write_keys-held.result) (lent (goal.at.After-write_keys-lacked c).After-write_keys-held), space, all_words_length (keys_at_start false t))) in
    let whole = listed_answer t (lent (goal.at.After-write_keys-lacked c).After-write_keys-held) room in (
      (λ i. answer.Needs (held.0 i) (lacked.0 i)) ∙ sym (ap (λ (a : Answered). depends_answer_to a.answer) whole),
      second_written (held_words t (lent (goal.at.After-write_keys-lacked c).After-write_keys-held)) (lacked_words t (lent (goal.at.After-write_keys-lacked c).After-write_keys-held)) (lent (goal.at.After-write_keys-lacked c).After-write_keys-held) _ front space held.1 lacked.1 ∙ sym (ap (λ (a : Answered). a.output) whole),
    )

pub returns-then-out-count : goal.returns-then-out-count
returns-then-out-count c = record { answered = λ t s. sym (ap (λ (a : Answered). depends_answer_to a.answer) (refused c t s)); written = λ t s. sym (ap (λ (a : Answered). a.output) (refused c t s)) }

pub returns : goal.returns
returns c = record { answered = λ t s. (both (goal.at.returns c).After-write_keys-lacked t s).0; written = λ t s. (both (goal.at.returns c).After-write_keys-lacked t s).1 }

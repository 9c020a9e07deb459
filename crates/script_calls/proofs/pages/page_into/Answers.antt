-- `script_calls::pages::page_into` meets its contract: as many places are lent as the room says.
use Prim.Native.Nat.{ℕ, ◌-◌, ◌*◌, ◌/◌, ◌≤◌}
use mathlib.Core.Path.{◌≡◌, ap}
use mathlib.Core.Option.{none}
use native.Mathlib.Omega.{arith}
use borrow.Author.Rules.{rules}
use lib.ListN.{length, take, drop, replicate, length-replicate}
use lib.Seq.{length-take-le}
use Rattle.spec_page.specs.Page.{page}
use Rattle.spec_replay.specs.Answers.{page_lines}
use Rattle.bytes_printer.proofs.PrintsLaws.{prints_same}
use Rattle.panel_page.specs.PageTable.{page_width}
use Rattle.script_calls.proofs.pages.page_into.Goals as goal
use Rattle.script_calls.proofs.pages.page_into.Goals.{Start}

lent_places : (n room : ℕ) → room * page_width ≤ n → length (take (room * page_width - 0) (drop 0 (replicate {A = ℕ} n 0))) / page_width ≡ room
lent_places n room h =
    let size = length-take-le (room * page_width - 0) (replicate {A = ℕ} n 0) (omega (arith, length-replicate {A = ℕ} n 0)) in
    rw size (omega arith)

-- a room is a byte
abbrev most_room : ℕ
most_room = 255

few : (c : Start) → c.args.room ≤ most_room
few c = search rules

pub returns : goal.returns
returns c =
    λ m h. prints_same (ap (λ (n : ℕ). page_lines (length c.args.keys.now) (page m.projection c.args.collection c.args.keys.now (replicate n none))) (lent_places (most_room * page_width) c.args.room (omega (arith, few (goal.at.returns c).Start)))) (c.page_lent.ensures m h)

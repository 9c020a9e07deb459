-- Three numbers of a list at a time.
use Rattle.std.specs.Prelude.{ℕ, suc, ◌+◌, ◌≤◌, ◌≡◌, List, ◌∷◌, length, drop, get_or}
use Rattle.std.proofs.Common.{arith, drop-cons}

pub three_at : (ns : List ℕ) (at : ℕ) → at + 3 ≤ length ns → drop at ns ≡ get_or ns at 0 ∷ get_or ns (at + 1) 0 ∷ get_or ns (at + 2) 0 ∷ drop (at + 3) ns
three_at ns at h =
    let one : at + 1 ≡ suc at = omega arith in
    let two : at + 2 ≡ suc (suc at) = omega arith in
    let three : at + 3 ≡ suc (suc (suc at)) = omega arith in
    rw (one, two, three, drop-cons ns at 0 (omega arith), drop-cons ns (suc at) 0 (omega arith), drop-cons ns (suc (suc at)) 0 (omega arith))

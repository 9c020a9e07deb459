-- Laws of a row of zeros.
use Rattle.std.specs.Prelude.{ℕ, ◌+◌, ◌-◌, ◌≤◌, ◌≡◌, length, drop}
use Rattle.std.proofs.Common.{sym, ap, ◌∙◌, arith, drop_at}
use Rattle.std.proofs.lemmas.List.{length-replicate, replicate-append-replicate}
use Rattle.bytes_records.specs.Moves.{zeros}

pub length_zeros : (n : ℕ) → length (zeros n) ≡ n
length_zeros n = length-replicate n 0

pub drop_zeros : (k n : ℕ) → k ≤ n → drop k (zeros n) ≡ zeros (n - k)
drop_zeros k n h =
    let e : k + (n - k) ≡ n = omega arith in
    ap (λ (m : ℕ). drop k (zeros m)) (sym e) ∙ ap (drop k) (sym (replicate-append-replicate k (n - k) 0)) ∙ drop_at (zeros k) (zeros (n - k)) k (length_zeros k)

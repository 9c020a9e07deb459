-- `bytes_wire::write_u8_at` meets its contract: a byte is its own only byte.
use Rattle.std.proofs.Common.{arith, ap, ◌∙◌, ◌≡◌, ◌%◌, ℕ, [], ◌∷◌}
use Rattle.spec_lists.specs.Bytes.{little_endian}
use Rattle.bytes_wire.specs.Write.{overwrite}
use Rattle.bytes_wire.proofs.write_u8_at.Goals as goal

pub returns-clause-out_after : goal.returns-clause-out_after
unfolding little_endian
returns-clause-out_after c =
    let byte : c.args.x ≡ c.args.x % 256 = omega arith in
    c.write_bytes_at.ensures.out_after ∙ ap (λ (b : ℕ). overwrite c.args.out.now c.args.at (b ∷ [])) byte

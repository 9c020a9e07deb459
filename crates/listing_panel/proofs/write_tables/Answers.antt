-- `listing_panel::write_tables` meets its contract: the lines of every projection fit the text.
use Prim.Native.Nat.{ℕ}
use native.Mathlib.Omega.{arith}
use lib.ListN.{length-replicate}
use borrow.Author.Rules.{rules}
use Rattle.spec_listing.specs.Listing.{projection_lines}
use Rattle.listing_lines.specs.ListingBytes.{listing_bytes}
use Rattle.listing_lines.proofs.ListingBytesLaws.{projection_fits}
use Rattle.listing_panel.specs.WrittenLaws.{printed_holds}
use Rattle.listing_panel.proofs.write_tables.Goals as goal

pub returns : goal.returns
returns c =
    record { lines = (λ p b a e v. c.write_lines.ensures.lines (projection_lines p) (printed_holds (c.print_tables-end.ensures p b a e v) (omega (arith, projection_fits p v, length-replicate {A = ℕ} listing_bytes 0)))); kept = c.write_lines.ensures.kept }

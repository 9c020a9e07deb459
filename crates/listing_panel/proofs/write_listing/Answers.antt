-- `listing_panel::write_listing` meets its contract: every listing fits the text.
use Prim.Native.Nat.{ℕ}
use native.Mathlib.Omega.{arith}
use lib.ListN.{length-replicate}
use borrow.Author.Rules.{rules}
use Rattle.spec_lists.proofs.BytesLaws.{bytes_of}
use Rattle.spec_listing.specs.Listing.{listing}
use Rattle.listing_lines.specs.ListingBytes.{listing_bytes}
use Rattle.listing_lines.proofs.ListingBytesLaws.{listing_fits}
use Rattle.projection_patch.specs.Meaning.{edition_of}
use Rattle.listing_panel.specs.WrittenLaws.{printed_holds}
use Rattle.listing_panel.proofs.write_listing.Goals as goal

pub returns : goal.returns
returns c =
    let ed = edition_of c.args.edition in
    let bytes = bytes_of c.args.set.now (λ j. (c.type_inv.set j).fits) in
    c.write_lines.ensures.lines (listing ed c.args.set.now) (printed_holds c.print_listing-end.ensures (omega (arith, listing_fits ed c.args.set.now bytes, length-replicate {A = ℕ} listing_bytes 0)))

-- Computed examples of escapes and of listings read back, 02, 'Job 2', as one table; and panels that meet the theorems' premise.
use Rattle.std.specs.Prelude.{ℕ, ◌≡◌, refl, Bool, true, false, not, T, eqb, negsuc, length, replicate}
use Prim.Native.String.{String}
use mathlib.Core.List.{List, [], ◌∷◌, flat_map}
use Rattle.std.proofs.Math.Option.{Option, none, some, bind}
use Rattle.std.proofs.Common.{arith}
use Rattle.spec_lists.specs.Lists.{all, equal_lists}
use Rattle.spec_patch.specs.Patch as patch
use Rattle.spec_patch.specs.Patch.{quad, signed, text, pending}
use Rattle.spec_patch.specs.Encode.{quad_byte, availability_byte}
use Rattle.spec_patch.specs.Read.{quad_after, availability_after}
use Rattle.spec_patch.specs.Fits.{FitsText, StorableBy}
use Rattle.spec_projection.specs.Projection.{Projection, empty}
use Rattle.spec_projection.specs.Entries.{is_entry}
use Rattle.spec_projection.specs.Marks.{without_marks}
use Rattle.spec_projection.specs.Valid.{Valid}
use Rattle.spec_decimal.specs.Decimal.{digits, decimal, signed_decimal, is_numeral, number_with, read_decimal, positive, negative, read_signed_decimal}
use Rattle.spec_listing.specs.Ascii.{ascii}
use Rattle.spec_listing.specs.Escapes.{escaped_byte, escaped, byte_of, unescaped}
use Rattle.spec_listing.specs.Split.{prepend, split, cons}
use Rattle.spec_listing.specs.Listing.{fields, value_fields, binding_line, availability_line, entry_line, record_count, projection_lines}
use Rattle.spec_listing.specs.ReadListing.{read_field, no_more, alone, was_read, read_byte_field, read_value_field, read_binding, read_node_availability, read_entry, read_behind, read_unended, read_lines, with_record, projection_of, count_line, under_count, read_listing_lines, read_listing}
use Rattle.spec_listing.proofs.ListingLaws.{listing_injective}

same : List ℕ → List ℕ → Bool
same = equal_lists eqb

prints : String → String → Bool
prints t line = same (escaped (ascii t)) (ascii line)

-- a listing that reads prints as it did; one that is of no projection reads as none
reads_back : String → Bool
reads_back lines = again (read_listing (ascii lines))
  where
    again : Option Projection → Bool
    again none = false
    again (some p) = same (projection_lines p) (ascii lines)

reads_not : String → Bool
reads_not lines = refused (read_listing (ascii lines))
  where
    refused : Option Projection → Bool
    refused none = true
    refused (some p) = false

-- a binding, an availability and two entries, one with a text that looks like a record
pub panel : Projection
panel = record {
  bindings = record { node = 5; slot = 0; mark = 1; value = quad patch.T } ∷ [];
  availabilities = record { node = 5; mark = 1; availability = pending } ∷ [];
  entries =
      record { collection = 9; key = 1; mark = 2; value = text (ascii "a\tb\nC\t9\t2\tU\t7") }
      ∷ record { collection = 9; key = 2; mark = 1; value = signed (negsuc 3) } ∷ [];
}

-- as they are, the texts of both would give the same three lines behind the count
alike : List ℕ → List ℕ → Projection
alike a b = record {
  bindings = [];
  availabilities = [];
  entries = record { collection = 9; key = 1; mark = 0; value = text a } ∷ record { collection = 9; key = 3; mark = 0; value = text b } ∷ [];
}

pub listing_examples : List Bool
listing_examples =
    prints "" ""
    ∷ prints "plain text" "plain text"
    ∷ prints "\\" "\\\\"
    ∷ prints "\t" "\\t"
    ∷ prints "\n" "\\n"
    ∷ prints "\r" "\\r"
    ∷ prints "\t\t" "\\t\\t"
    -- a tab, and the two characters backslash and t
    ∷ prints "\\t" "\\\\t"
    ∷ prints "\ta\n" "\\ta\\n"
    -- 160 backslashes, as many as a text may have, print 320
    ∷ eqb (length (escaped (replicate 160 92))) 320
    ∷ not (same (projection_lines (alike (ascii "a\nC\t9\t3\tT\tb") (ascii "c"))) (projection_lines (alike (ascii "a") (ascii "b\nC\t9\t3\tT\tc"))))
    ∷ same (projection_lines panel) (ascii "P\t4\nB\t5\t0\tQ\t2\nA\t5\t3\nC\t9\t1\tT\ta\\tb\\nC\\t9\\t2\\tU\\t7\nC\t9\t2\tS\t-4\n")
    ∷ reads_back "P\t4\nB\t5\t0\tQ\t2\nA\t5\t3\nC\t9\t1\tT\ta\\tb\\nC\\t9\\t2\\tU\\t7\nC\t9\t2\tS\t-4\n"
    ∷ reads_back "P\t0\n"
    ∷ reads_back "P\t1\nC\t0\t18446744073709551615\tT\t\n"
    -- the last newline is missing, the count is another, a kind that there is not, a field too many, a letter that stands for nothing
    ∷ reads_not "P\t1\nA\t5\t3"
    ∷ reads_not "P\t2\nA\t5\t3\n"
    ∷ reads_not "P\t1\nB\t5\t0\tX\t2\n"
    ∷ reads_not "P\t1\nC\t9\t1\tT\ta\tb\n"
    ∷ reads_not "P\t1\nC\t9\t1\tT\ta\\x\n"
    ∷ reads_not "P\t1\nC\t9\t1\tT\ta\\\n"
    ∷ reads_not "E\t8\n"
    ∷ []

-- all rows hold
pub listing_examples_lem : T (all (λ (b : Bool). b) listing_examples)
unfolding listing_examples same prints reads_back reads_not panel alike
    flat_map empty quad_byte availability_byte quad_after availability_after digits decimal signed_decimal is_numeral number_with read_decimal positive negative read_signed_decimal
    escaped_byte escaped byte_of unescaped prepend split cons
    fields value_fields binding_line availability_line entry_line record_count projection_lines
    bind read_field no_more alone was_read read_byte_field read_value_field read_binding read_node_availability read_entry read_behind read_unended read_lines with_record projection_of count_line under_count read_listing_lines read_listing
listing_examples_lem = tt

-- ---- a panel that is valid

text_fits : FitsText (ascii "a\tb\nC\t9\t2\tU\t7")
text_fits = record { short = omega arith; utf8 = refl; few = refl }

panel_valid : Valid panel
unfolding panel StorableBy is_entry
panel_valid = record {
  bindings = (tt, tt);
  availabilities = (tt, tt);
  entries = ((record { collection = omega arith; other = refl }, tt), (tt, tt));
  few_bindings = omega arith;
  few_availabilities = omega arith;
  few_entries = omega arith;
  fit_bindings = (record { node = omega arith; slot = omega arith; mark = omega arith; value = tt }, tt);
  fit_availabilities = (record { node = omega arith; mark = omega arith }, tt);
  fit_entries = (
    record { collection = omega arith; key = omega arith; mark = omega arith; value = text_fits },
    (record { collection = omega arith; key = omega arith; mark = omega arith; value = omega arith }, tt),
  );
}

-- Job 2's claim on this panel and any other valid one
pub panel_differs : (p : Projection) → Valid p → projection_lines panel ≡ projection_lines p → without_marks panel ≡ without_marks p
panel_differs p v = listing_injective panel p panel_valid v

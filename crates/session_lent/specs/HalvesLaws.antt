-- A half that holds a session is room for a later one, and slices that stay are the same half.
use Rattle.std.specs.Prelude.{ℕ, ◌≡◌, List}
use Rattle.spec_session.specs.Session.{Session}
use Rattle.panel_writing.specs.WritingLaws.{rows_clear}
use Rattle.panel_changes.specs.SetChangesLaws.{stored_lengths, stored_counts, lengths_clear}
use Rattle.session_lent.specs.HeadLaws.{lent_head_long}
use Rattle.session_lent.specs.Batches.{SameHalf}
use Rattle.session_lent.specs.BatchesLaws.{held_tables}
use Rattle.session_lent.specs.Halves.{Anchors, Half, half_with, HeldIn, RoomIn}

pub held_room : (k : Anchors) (h : Half) (m : Session) → HeldIn k h m → RoomIn h
held_room k h m held =
    let tables = held_tables m held in
    record {
      head_long = lent_head_long h.head m held.head_is;
      tables = record {
        lengths = stored_lengths tables;
        collections = held.collections_told.size;
        few = stored_counts tables;
        bindings = rows_clear tables.bindings.rows;
        availabilities = rows_clear tables.availabilities.rows;
        entries = rows_clear tables.entries.rows;
        counted = lengths_clear tables held.collections_told;
      };
    }

pub same_half : {h b a e l h' b' a' e' l' : List ℕ} → SameHalf h b a e l h' b' a' e' l' → half_with h' b' a' e' l' ≡ half_with h b a e l
same_half s = λ i. record { head = s.0 i; bindings = s.1.0 i; availability = s.1.1.0 i; entries = s.1.1.1.0 i; lengths = s.1.1.1.1 i }

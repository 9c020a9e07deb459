-- When a table is copied, and that the copy stores what the plan stores.
use Prim.Native.Nat.{ℕ, ◌-◌, ◌*◌, ◌≤◌, ◌<◌, max}
use Rattle.std.specs.Prelude.{◌≡◌, ◌≢◌, true, false, ◌&&◌, List, ◌++◌, length, take, drop}
use Rattle.std.proofs.Common.{sym, ap, ◌∙◌, subst, arith, take-append-drop}
use Rattle.std.proofs.Math.Nat.{mul-le-mul_right, le-max_left, le-max_right, max-le}
use borrow.Author.Tests.{le-leb, lt-leb, eq-eqb, ne_eqb, leb-true, eqb-true}
use Rattle.std.proofs.Math.Dec.{leb, eqb}
use Rattle.spec_lists.proofs.ListLaws.{and_left, and_right}
use Rattle.spec_patch.specs.Sizes.{projection_availabilities}
use Rattle.spec_projection.specs.Projection.{NodeAvailability}
use Rattle.bytes_records.specs.Moves.{zeros}
use Rattle.panel_rows.specs.Rows.{availability_width, availability_bytes, availability_row}
use Rattle.local_projection_state.specs.Stores.{Stored}
use Rattle.panel_writing.specs.Writing.{ClearBehind, can_copy, copied_table}
use Rattle.panel_writing.specs.WritingLaws.{clear_behind_more, rows_clear}

module _ (count used : ℕ) (plan to : List ℕ) where
  pub can_copy_lem : count ≤ projection_availabilities → used ≤ projection_availabilities → length plan ≡ availability_bytes → length to ≡ availability_bytes → can_copy count used plan to ≡ true
  unfolding can_copy
  can_copy_lem c u p t = rw (le-leb count projection_availabilities c, le-leb used projection_availabilities u, eq-eqb (length plan) availability_bytes p, eq-eqb (length to) availability_bytes t)

  pub copy_many : projection_availabilities < count → can_copy count used plan to ≡ false
  unfolding can_copy
  copy_many c = rw (lt-leb count projection_availabilities c)

  pub copy_many_used : count ≤ projection_availabilities → projection_availabilities < used → can_copy count used plan to ≡ false
  unfolding can_copy
  copy_many_used c u = rw (le-leb count projection_availabilities c, lt-leb used projection_availabilities u)

  pub other_plan : count ≤ projection_availabilities → used ≤ projection_availabilities → length plan ≢ availability_bytes → can_copy count used plan to ≡ false
  unfolding can_copy
  other_plan c u p = rw (le-leb count projection_availabilities c, le-leb used projection_availabilities u, ne_eqb (length plan) availability_bytes p)

  pub other_copy : count ≤ projection_availabilities → used ≤ projection_availabilities → length plan ≡ availability_bytes → length to ≢ availability_bytes → can_copy count used plan to ≡ false
  unfolding can_copy
  other_copy c u p t = rw (le-leb count projection_availabilities c, le-leb used projection_availabilities u, eq-eqb (length plan) availability_bytes p, ne_eqb (length to) availability_bytes t)

  pub table_copied : can_copy count used plan to ≡ true → copied_table count used plan to ≡ take (max count used * availability_width) plan ++ drop (max count used * availability_width) to
  unfolding copied_table
  table_copied e = rw e

  pub table_uncopied : can_copy count used plan to ≡ false → copied_table count used plan to ≡ to
  unfolding copied_table
  table_uncopied e = rw e

  -- the places that are used, or were, stand in both tables
  pub copy_room : can_copy count used plan to ≡ true → (max count used * availability_width ≤ length plan) × (max count used * availability_width ≤ length to)
  unfolding can_copy
  copy_room e =
      let one = leb count projection_availabilities in
      let two = leb used projection_availabilities in
      let three = eqb (length plan) availability_bytes in
      let four = eqb (length to) availability_bytes in
      let rest = and_right one (two && (three && four)) e in
      let last = and_right two (three && four) rest in
      let few = mul-le-mul_right {m = max count used} {n = projection_availabilities} availability_width (max-le (leb-true count projection_availabilities (and_left one (two && (three && four)) e)) (leb-true used projection_availabilities (and_left two (three && four) rest))) in
      (omega (arith, few, eqb-true (length plan) availability_bytes (and_left three four last)), omega (arith, few, eqb-true (length to) availability_bytes (and_right three four last)))

  -- what the plan stores is stored
  pub copy_stored : can_copy count used plan to ≡ true → length plan ≡ length to → ClearBehind used availability_width to → (l : List NodeAvailability)
      → Stored availability_row availability_width projection_availabilities count plan l → Stored availability_row availability_width projection_availabilities count (copied_table count used plan to) l
  copy_stored e same clear l s =
      let k = max count used * availability_width in
      let room = copy_room e in
      let here = clear_behind_more count (max count used) availability_width plan (le-max_left count used) room.0 (rows_clear s.rows) in
      let there = clear_behind_more used (max count used) availability_width to (le-max_right count used) room.1 clear in
      let behind : drop k to ≡ drop k plan = there ∙ ap (λ (n : ℕ). zeros (n - k)) (sym same) ∙ sym here in
      let whole : copied_table count used plan to ≡ plan = table_copied e ∙ ap (λ (t : List ℕ). take k plan ++ t) behind ∙ take-append-drop k plan in
      subst (λ (t : List ℕ). Stored availability_row availability_width projection_availabilities count t l) (sym whole) s

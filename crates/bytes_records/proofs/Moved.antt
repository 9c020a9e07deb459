-- What a table holds once a row is taken out and another one inserted elsewhere, by the lent part between the two positions.
use Prim.Native.Nat.{ℕ, ◌+◌, ◌-◌, ◌*◌, ◌≤◌, ◌<◌}
use mathlib.Core.Path.{◌≡◌, sym, ap, ◌∙◌, subst}
use mathlib.Core.Bool.{true, false}
use mathlib.Core.List.{List, [], ◌∷◌, ◌++◌, flatten, append_assoc}
use native.Mathlib.Nat.{add-mul}
use native.Mathlib.Numerals.{add-one}
use native.Mathlib.Omega.{arith}
use lib.ListN.{length, take, drop, get_or, length-append, length-take, length-drop, take-append-drop}
use lib.Seq.{take_at, drop_at, take-add, drop-drop, split_at}
use borrow.Rule.Slice.PartMut.{mid_of, put_mid}
use borrow.Author.Tests.{le-leb, lt-leb, lt-ltb, le-ltb, eq-eqb, ne_eqb}
use Rattle.spec_lists.proofs.ListLaws.{all_append, all_left, all_right}
use Rattle.bytes_records.specs.Positions.{insert_at, remove_at, move_at}
use Rattle.bytes_records.specs.Table.{Wide, HoldsRows, can_move}
use Rattle.bytes_records.specs.TableLaws.{flatten_append, flatten_middle, wide_middle, length_flatten, holds, rows_padded}
use Rattle.bytes_records.specs.Moves.{zeros, push_front, push_back}
use Rattle.bytes_records.proofs.Parts.{lent}

-- ---- lists in parts

module _ {A : Type 0} (a : List A) (x : A) (b c : List A) (r : A) (from to : ℕ) where
  -- x is taken out, and r inserted behind b
  list_later : length a ≡ from → length a + length b ≡ to → move_at from to r (a ++ x ∷ (b ++ c)) ≡ a ++ (b ++ r ∷ c)
  list_later front end =
      let h : length (a ++ b) ≡ to = simp length-append end in
      let one : length (a ++ x ∷ []) ≡ from + 1 = simp length-append (omega arith) in
      let rest : drop (from + 1) (a ++ x ∷ (b ++ c)) ≡ b ++ c = ap (drop (from + 1)) (sym (append_assoc a (x ∷ []) (b ++ c))) ∙ drop_at (a ++ x ∷ []) (b ++ c) (from + 1) one in
      let out : remove_at from (a ++ x ∷ (b ++ c)) ≡ (a ++ b) ++ c = rw (take_at a (x ∷ (b ++ c)) from front, rest, append_assoc) in
      ap (insert_at to r) out ∙ rw (take_at (a ++ b) c to h, drop_at (a ++ b) c to h, append_assoc)

  -- x is taken out behind b, and r inserted before it
  list_earlier : length a + length b ≡ from → length a ≡ to → move_at from to r (a ++ (b ++ x ∷ c)) ≡ a ++ (r ∷ (b ++ c))
  list_earlier end front =
      let h : length (a ++ b) ≡ from = simp length-append end in
      let one : length ((a ++ b) ++ x ∷ []) ≡ from + 1 = simp length-append (omega arith) in
      let rest : drop (from + 1) ((a ++ b) ++ x ∷ c) ≡ c = ap (drop (from + 1)) (sym (append_assoc (a ++ b) (x ∷ []) c)) ∙ drop_at ((a ++ b) ++ x ∷ []) c (from + 1) one in
      let out : remove_at from ((a ++ b) ++ x ∷ c) ≡ a ++ (b ++ c) = rw (take_at (a ++ b) (x ∷ c) from h, rest, append_assoc) in
      ap (move_at from to r) (sym (append_assoc a b (x ∷ c))) ∙ ap (insert_at to r) out ∙ rw (take_at a (b ++ c) to front, drop_at a (b ++ c) to front)

-- ---- the rows of the table afterwards

module _ {w n : ℕ} {l : List ℕ} (a : List (List ℕ)) (x : List ℕ) (b c : List (List ℕ)) (r : List ℕ) (from to : ℕ) (width : length r ≡ w) where
  bytes_later : HoldsRows w n l (a ++ x ∷ (b ++ c)) → length a ≡ from → length a + length b ≡ to
      → (s : List ℕ) → s ≡ push_back r (mid_of (from * w) (to * w + w - from * w) l)
      → HoldsRows w n (put_mid (from * w) (to * w + w - from * w) l s) (a ++ (b ++ r ∷ c))
  bytes_later t front end s e =
      let wide = all_right (Wide w) a (x ∷ (b ++ c)) t.wide in
      let wide-a = all_left (Wide w) a (x ∷ (b ++ c)) t.wide in
      let wide-b = all_left (Wide w) b c wide.1 in
      let wide-c = all_right (Wide w) b c wide.1 in
      let start : length (flatten a) ≡ from * w = length_flatten w a wide-a ∙ ap (λ (i : ℕ). i * w) front in
      let far : to * w ≡ length a * w + length b * w = ap (λ (i : ℕ). i * w) (sym end) ∙ add-mul (length a) (length b) w in
      let size : length (x ++ flatten b) ≡ to * w + w - from * w = simp length-append (omega (arith, length_flatten w b wide-b, wide.0, ap (λ (i : ℕ). i * w) front)) in
      let gone : length x ≡ length r = wide.0 ∙ sym width in
      let long : length (a ++ (b ++ r ∷ c)) ≡ n = simp length-append (omega (arith, simp length-append at t.counted)) in
      let split : l ≡ flatten a ++ ((x ++ flatten b) ++ (flatten c ++ zeros (length l - n * w))) = rows_padded t ∙ rw (flatten_middle, flatten_append) (simp append_assoc) in
      holds w n _ (a ++ (b ++ r ∷ c)) (length l - n * w) (all_append (Wide w) a (b ++ r ∷ c) wide-a (wide_middle w b r c wide-b width wide-c)) long
      (lent l (flatten a) (x ++ flatten b) (flatten c ++ zeros (length l - n * w)) _ _ split start size (push_back r) s e
      ∙ rw (drop_at x (flatten b) (length r) gone, flatten_append, flatten_middle) (simp append_assoc))

  bytes_earlier : HoldsRows w n l (a ++ (b ++ x ∷ c)) → length a + length b ≡ from → length a ≡ to
      → (s : List ℕ) → s ≡ push_front r (mid_of (to * w) (from * w + w - to * w) l)
      → HoldsRows w n (put_mid (to * w) (from * w + w - to * w) l s) (a ++ (r ∷ (b ++ c)))
  bytes_earlier t end front s e =
      let wide = all_right (Wide w) a (b ++ x ∷ c) t.wide in
      let wide-a = all_left (Wide w) a (b ++ x ∷ c) t.wide in
      let wide-b = all_left (Wide w) b (x ∷ c) wide in
      let wide-c = all_right (Wide w) b (x ∷ c) wide in
      let start : length (flatten a) ≡ to * w = length_flatten w a wide-a ∙ ap (λ (i : ℕ). i * w) front in
      let far : from * w ≡ length a * w + length b * w = ap (λ (i : ℕ). i * w) (sym end) ∙ add-mul (length a) (length b) w in
      let size : length (flatten b ++ x) ≡ from * w + w - to * w = simp length-append (omega (arith, length_flatten w b wide-b, wide-c.0, ap (λ (i : ℕ). i * w) front)) in
      let left : length (flatten b) ≡ length (flatten b ++ x) - length r = simp length-append (omega (arith, wide-c.0)) in
      let long : length (a ++ (r ∷ (b ++ c))) ≡ n = simp length-append (omega (arith, simp length-append at t.counted)) in
      let split : l ≡ flatten a ++ ((flatten b ++ x) ++ (flatten c ++ zeros (length l - n * w))) = rows_padded t ∙ rw (flatten_append, flatten_middle) (simp append_assoc) in
      holds w n _ (a ++ (r ∷ (b ++ c))) (length l - n * w) (wide_middle w a r (b ++ c) wide-a width (all_append (Wide w) b c wide-b wide-c.1)) long
      (lent l (flatten a) (flatten b ++ x) (flatten c ++ zeros (length l - n * w)) _ _ split start size (push_front r) s e
      ∙ rw (take_at (flatten b) x _ left, flatten_middle, flatten_append) (simp append_assoc))

module _ {w n : ℕ} {l : List ℕ} (m : List (List ℕ)) (t : HoldsRows w n l m) (from to : ℕ) (r : List ℕ) (width : length r ≡ w) where
  pub moved_later : from < to → to < n → (s : List ℕ) → s ≡ push_back r (mid_of (from * w) (to * w + w - from * w) l)
      → HoldsRows w n (put_mid (from * w) (to * w + w - from * w) l s) (move_at from to r m)
  moved_later order below s e =
      let a = take from m in
      let x = get_or m from [] in
      let b = take (to - from) (drop (from + 1) m) in
      let c = drop (to + 1) m in
      let here : from < length m = omega (arith, t.counted) in
      let front : length (take from m) ≡ from = simp length-take (omega arith) in
      let between : length (take (to - from) (drop (from + 1) m)) ≡ to - from = simp (length-take, length-drop) (omega (arith, t.counted)) in
      let end : length (take from m) + length (take (to - from) (drop (from + 1) m)) ≡ to = omega arith in
      let on : from + 1 + (to - from) ≡ to + 1 = omega arith in
      let rest : drop (from + 1) m ≡ b ++ c = sym (take-append-drop (to - from) (drop (from + 1) m)) ∙ rw (drop-drop, on) in
      let parts : m ≡ a ++ x ∷ (b ++ c) = split_at m from [] here ∙ ap (λ (d : List (List ℕ)). a ++ x ∷ d) (ap (λ (i : ℕ). drop i m) (sym (add-one from)) ∙ rest) in
      let held = bytes_later a x b c r from to width (subst (HoldsRows w n l) parts t) front end s e in
      subst (HoldsRows w n _) (sym (list_later a x b c r from to front end) ∙ ap (move_at from to r) (sym parts)) held

  pub moved_earlier : to ≤ from → from < n → (s : List ℕ) → s ≡ push_front r (mid_of (to * w) (from * w + w - to * w) l)
      → HoldsRows w n (put_mid (to * w) (from * w + w - to * w) l s) (move_at from to r m)
  moved_earlier order below s e =
      let a = take to m in
      let b = take (from - to) (drop to m) in
      let x = get_or m from [] in
      let c = drop (from + 1) m in
      let here : from < length m = omega (arith, t.counted) in
      let front : length (take to m) ≡ to = simp length-take (omega arith) in
      let between : length (take (from - to) (drop to m)) ≡ from - to = simp (length-take, length-drop) (omega (arith, t.counted)) in
      let end : length (take to m) + length (take (from - to) (drop to m)) ≡ from = omega arith in
      let on : to + (from - to) ≡ from = omega arith in
      let before : take from m ≡ a ++ b = ap (λ (i : ℕ). take i m) (sym on) ∙ take-add to (from - to) m in
      let parts : m ≡ a ++ (b ++ x ∷ c) = split_at m from [] here ∙ rw (before, ← add-one, append_assoc) in
      let held = bytes_earlier a x b c r from to width (subst (HoldsRows w n l) parts t) end front s e in
      subst (HoldsRows w n _) (sym (list_earlier a x b c r from to end front) ∙ ap (move_at from to r) (sym parts)) held

-- ---- the answer

module _ (size w n from to : ℕ) (row : List ℕ) where
  pub move_from_past : n ≤ from → can_move size w n from to row ≡ false
  unfolding can_move
  move_from_past h = rw (le-ltb from n h)

  pub move_to_past : from < n → n ≤ to → can_move size w n from to row ≡ false
  unfolding can_move
  move_to_past h k = rw (lt-ltb from n h, le-ltb to n k)

  pub move_other : from < n → to < n → (length row ≡ w → ⊥) → can_move size w n from to row ≡ false
  unfolding can_move
  move_other h k e = rw (lt-ltb from n h, lt-ltb to n k, ne_eqb (length row) w e)

  pub move_outside : from < n → to < n → length row ≡ w → size < n * w → can_move size w n from to row ≡ false
  unfolding can_move
  move_outside h k e f = rw (lt-ltb from n h, lt-ltb to n k, eq-eqb (length row) w e, lt-leb (n * w) size f)

  pub move_can : from < n → to < n → length row ≡ w → n * w ≤ size → can_move size w n from to row ≡ true
  unfolding can_move
  move_can h k e f = rw (lt-ltb from n h, lt-ltb to n k, eq-eqb (length row) w e, le-leb (n * w) size f)

-- The batches of a group, read field by field.
use Prim.Native.Nat.{ℕ, suc, ◌+◌, ◌-◌, ◌≤◌, ◌<◌}
use Rattle.std.specs.Prelude.{◌≡◌, refl, length, get_or, take, set, Option, Some, None}
use Rattle.std.proofs.Math.Path.{sym, ap}
use Rattle.std.proofs.Common.{◌∙◌, add-one, length-set, drop-cons, take-suc-set, length-take-le}
use mathlib.Core.List.{List, [], ◌∷◌, ◌++◌, map, append_assoc, append-nil, map-append}
use native.Mathlib.Omega.{arith}
use Rattle.std.proofs.Math.ListN.{drop, length-drop}
use Rattle.std.proofs.Math.Seq.{take_all}
use Rattle.spec_decimal.specs.Decimal.{read_decimal}
use Rattle.spec_group.specs.Group.{GroupBatch}
use Rattle.spec_replay.specs.Lines.{space, split}
use Rattle.spec_replay.specs.Hex.{read_hex}
use Rattle.spec_replay.specs.Script.{Command, group, other, end, given, number_field, numbered_edition, before_last, comma, member_parts, member_field, line_members, group_last, group_arguments}
use Rattle.script_parser.specs.Fields.{first_field, fields_after, numbers, most_numbers, filled}
use Rattle.script_parser.specs.FieldsLaws.{length_first_field, none_after, some_after, one_after, field_part}
use Rattle.script_parser.specs.FormsLaws.{tested_then}
use Rattle.script_parser.specs.Meaning.{member_of, first_members, set_from}
use Rattle.script_parser.specs.Members.{member_then, member_made, group_then}
use Rattle.script_parser.specs.declared.GroupMember.{GroupMember}
use Rattle.script_parser.specs.declared.members.GroupFields.{GroupFields}

-- ---- one batch

-- seven numbers in a row, and the edition tested when all were read
pub member_numbers : (next : GroupBatch → Command) (fs : List (List ℕ)) → member_parts next fs ≡ numbers most_numbers (λ ns. end (member_made (filled most_numbers ns) next)) fs
unfolding member_parts numbered_edition
member_numbers next fs =
    λ i. number_field (λ a. number_field (λ b. number_field (λ c. number_field (λ d. number_field (λ e gs.
    tested_then numbered_edition refl read_decimal (λ ed n. next (record { edition = ed; envelope = record { session = a; sequence = b; patches = c; stimulus_bytes = d }; references = e; bytes = n })) gs i))))) fs

-- ---- the field of a batch

module _ (line : List ℕ) (at to : ℕ) (e : to ≡ at + 1 + length (first_field space (drop (at + 1) line))) (inside : at < length line) where
  abbrev part : List ℕ
  part = take (to - at) (drop at line)

  -- the field, with the byte before it
  part_is : part ≡ get_or line at 0 ∷ first_field space (drop (at + 1) line)
  part_is =
      let more : to - at ≡ suc (to - (at + 1)) = omega arith in
      let behind : drop (suc at) line ≡ drop (at + 1) line = ap (λ (k : ℕ). drop k line) (sym (add-one at)) in
      ap (take (to - at)) (drop-cons line at 0 inside)
      ∙ ap (λ (k : ℕ). take k (get_or line at 0 ∷ drop (suc at) line)) more
      ∙ ap (λ (l : List ℕ). get_or line at 0 ∷ take (to - (at + 1)) l) behind
      ∙ ap (λ (l : List ℕ). get_or line at 0 ∷ l) (field_part space line (at + 1) to e)

  pub part_member : (next : GroupBatch → Command) → member_field next (first_field space (drop (at + 1) line)) ≡ member_parts next (fields_after comma part 0)
  unfolding member_field
  part_member next =
      ap (member_parts next) (sym (ap (λ (l : List ℕ). fields_after comma l 0) part_is ∙ some_after comma (get_or line at 0 ∷ first_field space (drop (at + 1) line)) 0 (omega arith)))

-- ---- the batches so far

-- the batches of the first fields stand in the first places, and the rest of the fields is read behind them
pub record Gathered (line : List ℕ) (end : ℕ) (members : List GroupMember) (count at : ℕ) : Type 0 where
  pub places : length members ≡ line_members
  pub few : count ≤ line_members
  pub same : group_arguments (fields_after space line end) ≡ before_last (line_members - count) member_field (λ bs f. group_last (first_members count members ++ bs) f) (fields_after space line at)

pub gathered_start : (line : List ℕ) (end : ℕ) (members : List GroupMember) → length members ≡ line_members → Gathered line end members 0 end
unfolding group_arguments
gathered_start line end members many = record { places = many; few = omega arith; same = refl }

module _ {line : List ℕ} {end : ℕ} {members : List GroupMember} {count at : ℕ} (g : Gathered line end members count at) where
  abbrev last : List GroupBatch → List ℕ → Command
  last bs f = group_last (first_members count members ++ bs) f

  -- no field is left
  pub gathered_none : length line ≤ at → group_arguments (fields_after space line end) ≡ other
  unfolding before_last
  gathered_none h = g.same ∙ ap (before_last (line_members - count) member_field last) (none_after space line at h)

  module _ (to : ℕ) (e : to ≡ at + 1 + length (first_field space (drop (at + 1) line))) (inside : at < length line) where
    abbrev field : List ℕ
    field = first_field space (drop (at + 1) line)

    here : fields_after space line at ≡ field ∷ fields_after space line to
    here = one_after space line at inside ∙ ap (λ (k : ℕ). field ∷ fields_after space line k) (sym e)

    -- the last field
    pub gathered_last : length line ≤ to → group_arguments (fields_after space line end) ≡ set_from line (at + 1) (group (first_members count members))
    unfolding before_last group_last
    gathered_last over =
        let whole : first_field space (drop (at + 1) line) ≡ drop (at + 1) line = sym (field_part space line (at + 1) to e) ∙ take_all (to - (at + 1)) (drop (at + 1) line) (omega (arith, length-drop (at + 1) line)) in
        g.same
        ∙ ap (before_last (line_members - count) member_field last) (here ∙ ap (λ (fs : List (List ℕ)). field ∷ fs) (none_after space line to over))
        ∙ ap (λ (bs : List GroupBatch). given (read_hex field) (group bs)) (append-nil (first_members count members))
        ∙ ap (λ (f : List ℕ). given (read_hex f) (group (first_members count members))) whole

    module _ (more : to < length line) where
      abbrev others : List (List ℕ)
      others = fields_after space line (to + 1 + length (first_field space (drop (to + 1) line)))

      second : List ℕ
      second = first_field space (drop (to + 1) line)

      behind : fields_after space line to ≡ second ∷ others
      unfolding second
      behind = one_after space line to more

      both : fields_after space line at ≡ field ∷ second ∷ others
      both = here ∙ ap (λ (fs : List (List ℕ)). field ∷ fs) behind

      -- one field too many
      pub gathered_many : line_members ≤ count → group_arguments (fields_after space line end) ≡ other
      unfolding before_last
      gathered_many full =
          let no_more : line_members - count ≡ 0 = omega arith in
          g.same ∙ ap (λ (n : ℕ). before_last n member_field last (fields_after space line at)) no_more ∙ ap (before_last 0 member_field last) both

      module _ (room : count < line_members) (r : Option GroupMember) (told : (next : GroupBatch → Command) → member_parts next (fields_after comma (take (to - at) (drop at line)) 0) ≡ member_then r next) where
        -- the field is read, and the rest behind it
        onward : group_arguments (fields_after space line end) ≡ member_then r (λ a. before_last (line_members - (count + 1)) member_field (λ bs f. last (a ∷ bs) f) (second ∷ others))
        unfolding before_last
        onward =
            let left : line_members - count ≡ suc (line_members - (count + 1)) = omega arith in
            g.same
            ∙ ap (λ (n : ℕ). before_last n member_field last (fields_after space line at)) left
            ∙ ap (before_last (suc (line_members - (count + 1))) member_field last) both
            ∙ part_member line at to e inside _
            ∙ told _

        pub gathered_off : r ≡ None → group_arguments (fields_after space line end) ≡ other
        gathered_off is = onward ∙ ap (λ (x : Option GroupMember). member_then x (λ a. before_last (line_members - (count + 1)) member_field (λ bs f. last (a ∷ bs) f) (second ∷ others))) is

        pub gathered_turn : (m : GroupMember) → r ≡ Some m → Gathered line end (set members count m) (count + 1) to
        gathered_turn m is =
            let kept : first_members (count + 1) (set members count m) ≡ first_members count members ++ (member_of m ∷ []) =
            ap (map member_of) (ap (λ (k : ℕ). take k (set members count m)) (add-one count) ∙ take-suc-set members count m (omega (arith, g.places))) ∙ map-append member_of (take count members) (m ∷ []) in
            record {
              places = length-set members count m ∙ g.places;
              few = omega arith;
              same =
                  onward
                  ∙ ap (λ (x : Option GroupMember). member_then x (λ a. before_last (line_members - (count + 1)) member_field (λ bs f. last (a ∷ bs) f) (second ∷ others))) is
                  ∙ (λ i. before_last (line_members - (count + 1)) member_field (λ bs f. group_last (moved kept bs i) f) (sym behind i));
            }
          where
            moved : first_members (count + 1) (set members count m) ≡ first_members count members ++ (member_of m ∷ []) → (bs : List GroupBatch)
                → first_members count members ++ (member_of m ∷ bs) ≡ first_members (count + 1) (set members count m) ++ bs
            moved kept bs = sym (ap (λ (l : List GroupBatch). l ++ bs) kept ∙ append_assoc (first_members count members) (member_of m ∷ []) bs)

-- ---- a line that is no group

pub no_group_then : (line : List ℕ) (r : Option GroupFields) → r ≡ None → group_then line r ≡ other
no_group_then line r e = ap (group_then line) e

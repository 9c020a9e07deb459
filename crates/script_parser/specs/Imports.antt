-- What the fields of a line that brings in a term list stand for.
use Rattle.std.specs.Prelude as code
use Rattle.std.specs.Prelude.{ℕ, ◌≡◌, List, Some, None}
use Rattle.std.proofs.Math.Option.{Option}
use Rattle.spec_replay.specs.Lines.{space}
use Rattle.spec_replay.specs.Script.{Command, import_list, other, Arguments, end, number_field, optional, hex}
use Rattle.projection_patch.specs.Meaning.{surface_of}
use Rattle.projection_patch.specs.declared.contract_primitives.StaticSurfaceId.{StaticSurfaceId}
use Rattle.script_parser.specs.Fields.{fields_after, numbers, filled}
use Rattle.script_parser.specs.Forms.{number_in}

-- how reading goes on behind a surface
abbrev pub surface_then : List ℕ → code.Option (code.Option StaticSurfaceId × ℕ) → (Option ℕ → Arguments) → Command
surface_then line (Some r) next = next (surface_of r.0) (fields_after space line r.1)
surface_then line None next = other

abbrev pub SurfaceAfter : List ℕ → ℕ → code.Option (code.Option StaticSurfaceId × ℕ) → Type 0
SurfaceAfter line from r = (next : Option ℕ → Arguments) → optional next (fields_after space line from) ≡ surface_then line r next

-- the command of all fields
abbrev pub import_made : ℕ → List ℕ → Option ℕ → List ℕ → List ℕ → Command
import_made room front surface back list =
    import_list room (number_in front 0)
    (record {
      id = number_in front 1;
      stream = number_in front 2;
      document = number_in front 3;
      surface = surface;
      previous = number_in back 0;
      revision = number_in back 1;
      epoch = number_in back 2;
      sequence = number_in back 3;
    }) list

-- the fields behind the surface, and those behind the room
abbrev pub behind_surface : ℕ → List ℕ → Option ℕ → Arguments
behind_surface room front surface = numbers 4 (λ ns. hex (λ list. end (import_made room front surface (filled 4 ns) list)))

abbrev pub behind_room : ℕ → Arguments
behind_room room = numbers 4 (λ ns. optional (λ surface. behind_surface room (filled 4 ns) surface))

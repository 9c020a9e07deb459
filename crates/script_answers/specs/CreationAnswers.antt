-- The answer that a creation in the model is told by.
use Rattle.std.specs.Prelude.{◌≡◌, Result, Ok, Err}
use Rattle.spec_session.specs.Session.{Creation, made, refused}
use Rattle.session_creation.specs.Creation.{Creates}
use Rattle.session_creation.specs.declared.CreationRefusal.TheVariants.{AnchorsOverCapacity}
use Rattle.session_creation.specs.declared.CreationRefusal.{CreationRefusal}
use Rattle.session_creation.specs.declared.ShellSessionCreation.{ShellSessionCreation}

unfoldable pub creation_to : Creation → Result (Unit {0}) CreationRefusal
creation_to (made s) = Ok tt
creation_to (refused r) = Err AnchorsOverCapacity

-- it is what the creation call answers
pub creation_told : (c : Creation) (r : ShellSessionCreation) → Creates c r → r.answer ≡ creation_to c
unfolding Creates creation_to
creation_told (made s) r h = h.0
creation_told (refused f) r h = h.0

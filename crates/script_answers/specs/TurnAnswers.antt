-- The answer of a registration in the definitions' words.
use Rattle.std.specs.Prelude.{◌≡◌, refl, Result, Ok, Err}
use Rattle.spec_turns.specs.Turns as model
use Rattle.session_turns.specs.declared.RegisterRefusal.{RegisterRefusal}
use Rattle.session_turns.specs.Meaning.{register_refusal_of, register_answer_to}

abbrev pub register_answer_of : Result (Unit {0}) RegisterRefusal → model.RegisterAnswer
register_answer_of (Ok u) = model.registered
register_answer_of (Err f) = model.register_refused (register_refusal_of f)

pub registration_told : (a : model.RegisterAnswer) → register_answer_of (register_answer_to a) ≡ a
registration_told model.registered = refl
registration_told (model.register_refused model.unknown_sender) = refl
registration_told (model.register_refused model.already_waiting) = refl

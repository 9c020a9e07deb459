-- The lifecycle step: 01, 'Lifecycle'.
use Rattle.std.specs.Prelude.{ℕ, Bool, true, false, leb, if◌then◌else◌}
use Rattle.std.proofs.Math.Option.{Option, none, some}
use Rattle.spec_session.specs.Session.{Lifecycle, created, active, suspended, closed, Cursor, Session}
use Rattle.spec_session.specs.Diagnostics.{SessionRefusal, session_closed, wrong_lifecycle, limit_exceeded, Diagnostics, no_diagnostics, diagnostics_of}

-- the four commands, and the explicit no-op
pub data Stimulus : Type 0 where
  activate suspend resume close no_op : Stimulus

-- the pairs that 01 lists, with the state after; an explicit no-op passes and changes nothing
unfoldable pub transition : Lifecycle → Stimulus → Option Lifecycle
transition l no_op = some l
transition created activate = some active
transition created suspend = none
transition created resume = none
transition created close = some closed
transition active activate = none
transition active suspend = some suspended
transition active resume = none
transition active close = some closed
transition suspended activate = none
transition suspended suspend = none
transition suspended resume = some active
transition suspended close = some closed
transition closed activate = none
transition closed suspend = none
transition closed resume = none
transition closed close = none

abbrev pub is_closed : Lifecycle → Bool
is_closed created = false
is_closed active = false
is_closed suspended = false
is_closed closed = true

pub data Disposition : Type 0 where
  applied no_change rejected : Disposition

-- an explicit no-op answers NoChange
unfoldable pub disposition_of : Stimulus → Disposition
disposition_of activate = applied
disposition_of suspend = applied
disposition_of resume = applied
disposition_of close = applied
disposition_of no_op = no_change

-- what an answer tells of the session
pub record LocalState : Type 0 where
  pub id : ℕ
  pub lifecycle : Lifecycle
  pub cursor : Cursor

unfoldable pub state_of : Session → LocalState
state_of s = record { id = s.id; lifecycle = s.lifecycle; cursor = s.cursor }

-- disposition, state, the byte figure and diagnostics
pub record LifecycleAnswer : Type 0 where
  pub disposition : Disposition
  pub state : LocalState
  pub stimulus_bytes : ℕ
  pub diagnostics : Diagnostics

pub record LifecycleStep : Type 0 where
  pub next : Session
  pub answer : LifecycleAnswer

-- the session with another lifecycle; the cursor never moves here
unfoldable pub with_lifecycle : Session → Lifecycle → Session
with_lifecycle s l = record { id = s.id; limits = s.limits; catalogue = s.catalogue; lifecycle = l; cursor = s.cursor; projection = s.projection }

-- a rejection leaves the session as found, with one diagnostic
unfoldable pub reject_lifecycle : Session → ℕ → SessionRefusal → LifecycleStep
reject_lifecycle s b refusal = record {
  next = s;
  answer = record { disposition = rejected; state = state_of s; stimulus_bytes = b; diagnostics = diagnostics_of s.limits.diagnostics refusal 1 };
}

unfoldable pub enter_lifecycle : Session → ℕ → Disposition → Lifecycle → LifecycleStep
enter_lifecycle s b d l = record {
  next = with_lifecycle s l;
  answer = record { disposition = d; state = state_of (with_lifecycle s l); stimulus_bytes = b; diagnostics = no_diagnostics };
}

-- order: Closed 2; pair not listed 3; stimulus bytes over the limit 4
unfoldable pub lifecycle_step : Session → Stimulus → ℕ → LifecycleStep
lifecycle_step s u b =
    if is_closed s.lifecycle then reject_lifecycle s b session_closed else
    elim (transition s.lifecycle u) [
      | none ↦ reject_lifecycle s b wrong_lifecycle
      | some l ↦
          if leb b s.limits.stimulus_bytes then enter_lifecycle s b (disposition_of u) l else reject_lifecycle s b limit_exceeded
    ]

-- `no_session` meets its contract.
use Rattle.spec_projection.specs.Projection.{empty}
use Rattle.spec_projection.proofs.ValidLaws.{empty_valid}
use Rattle.active_projection_target_catalog.specs.Catalog.{padded_pairs, catalog_with}
use Rattle.local_projection_state.specs.Stores.{stored_state}
use Rattle.local_projection_state.specs.StoresLaws.{one_state, some_state}
use Rattle.session_creation.specs.Creation.{no_session_lem}
use borrow.Author.Rules.{rules}
use Rattle.session_creation.proofs.no_session.Goals as goal

pub returns : goal.returns
unfolding no_session_lem padded_pairs catalog_with
returns c = rw (c.from_snapshot.ensures, one_state empty c.empty-local_projection.result (stored_state empty) c.empty-local_projection.ensures (some_state empty empty_valid))

-- Every definition of the meaning, opened at once: a proof that computes says `unfolding opened`.
use Rattle.spec_patch.specs.Opened.{opened_sets}
use Rattle.spec_checks.specs.Opened.{opened_checks}
use Rattle.spec_projection.specs.Opened.{opened_panels}
use Rattle.spec_decimal.specs.Decimal
use Rattle.spec_session.specs.Session
use Rattle.spec_session.specs.Diagnostics
use Rattle.spec_session.specs.Lifecycle
use Rattle.spec_session.specs.Batch
use Rattle.spec_listing.specs.Escapes
use Rattle.spec_listing.specs.Listing

unfoldable pub opened_all : Unit {0}
unfolding opened_sets opened_checks opened_panels
    Rattle.spec_decimal.specs.Decimal.digits
    Rattle.spec_decimal.specs.Decimal.decimal
    Rattle.spec_decimal.specs.Decimal.signed_decimal
    Rattle.spec_decimal.specs.Decimal.is_numeral
    Rattle.spec_decimal.specs.Decimal.number_with
    Rattle.spec_decimal.specs.Decimal.read_decimal
    Rattle.spec_decimal.specs.Decimal.positive
    Rattle.spec_decimal.specs.Decimal.negative
    Rattle.spec_decimal.specs.Decimal.read_signed_decimal
    Rattle.spec_session.specs.Session.new_session
    Rattle.spec_session.specs.Session.anchors_fit
    Rattle.spec_session.specs.Session.create
    Rattle.spec_session.specs.Diagnostics.diagnostics_of
    Rattle.spec_session.specs.Lifecycle.transition
    Rattle.spec_session.specs.Lifecycle.disposition_of
    Rattle.spec_session.specs.Lifecycle.state_of
    Rattle.spec_session.specs.Lifecycle.with_lifecycle
    Rattle.spec_session.specs.Lifecycle.reject_lifecycle
    Rattle.spec_session.specs.Lifecycle.enter_lifecycle
    Rattle.spec_session.specs.Lifecycle.lifecycle_step
    Rattle.spec_session.specs.Batch.require
    Rattle.spec_session.specs.Batch.readable
    Rattle.spec_session.specs.Batch.in_catalogue
    Rattle.spec_session.specs.Batch.absent_targets
    Rattle.spec_session.specs.Batch.known_targets
    Rattle.spec_session.specs.Batch.takes_number
    Rattle.spec_session.specs.Batch.batch_checks
    Rattle.spec_session.specs.Batch.reject_batch
    Rattle.spec_session.specs.Batch.keep_session
    Rattle.spec_session.specs.Batch.advanced
    Rattle.spec_session.specs.Batch.apply_batch
    Rattle.spec_session.specs.Batch.candidate
    Rattle.spec_session.specs.Batch.commit
    Rattle.spec_session.specs.Batch.conclude_batch
    Rattle.spec_session.specs.Batch.batch
    Rattle.spec_listing.specs.Escapes.escaped_byte
    Rattle.spec_listing.specs.Escapes.escaped
    Rattle.spec_listing.specs.Listing.fields
    Rattle.spec_listing.specs.Listing.value_fields
    Rattle.spec_listing.specs.Listing.binding_line
    Rattle.spec_listing.specs.Listing.availability_line
    Rattle.spec_listing.specs.Listing.entry_line
    Rattle.spec_listing.specs.Listing.record_count
    Rattle.spec_listing.specs.Listing.projection_lines
    Rattle.spec_listing.specs.Listing.refusal_line
    Rattle.spec_listing.specs.Listing.outcome_lines
    Rattle.spec_listing.specs.Listing.reading_lines
    Rattle.spec_listing.specs.Listing.listing
opened_all = tt

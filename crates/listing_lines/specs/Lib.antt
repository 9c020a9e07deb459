pub mod LookupFields
pub mod RowKinds
pub mod ListingBytes

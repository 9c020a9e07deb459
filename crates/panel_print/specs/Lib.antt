pub mod ByteFlow
pub mod ByteFlowLaws
pub mod LookupBytes
pub mod LookupBytesLaws
pub mod EntriesPrint
pub mod EntriesPrintLaws
pub mod Answers
pub mod AnswersLaws

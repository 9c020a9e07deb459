pub mod LentExplain
pub mod LentExplainLaws

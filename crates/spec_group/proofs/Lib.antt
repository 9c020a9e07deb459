pub mod GroupLaws
pub mod PiecesLaws

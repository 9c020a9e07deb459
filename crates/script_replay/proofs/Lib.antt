pub mod AnswerBytesLaws

pub mod AnswerLaws
pub mod SizeLaws
pub mod UnwrittenLaws

pub mod AnswerLaws
pub mod LentLaws
pub mod ReplayLaws
pub mod SavedLaws

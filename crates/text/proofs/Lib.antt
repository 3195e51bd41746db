pub mod BufferLaws
pub mod DecimalLaws
pub mod IntegerLaws
pub mod LentLaws
pub mod NameLaws
pub mod RowLaws
pub mod SizeLaws
pub mod WordLaws

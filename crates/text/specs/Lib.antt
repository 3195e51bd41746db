pub mod Text
pub mod Buffer
pub mod Row
pub mod Lent
pub mod LentText

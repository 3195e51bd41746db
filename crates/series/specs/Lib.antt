pub mod Series
pub mod Means
pub mod Required

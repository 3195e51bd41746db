pub mod Amount
pub mod Share
pub mod Settlement
pub mod Month
pub mod Example
pub mod Required

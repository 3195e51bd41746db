pub mod Line
pub mod Range
pub mod Months
pub mod Price
pub mod Listed
pub mod Required

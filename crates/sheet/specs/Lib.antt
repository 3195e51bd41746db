pub mod Number
pub mod Sheet
pub mod Read
pub mod Write
pub mod Required
pub mod Example

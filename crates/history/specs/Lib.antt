pub mod Run
pub mod Plain
pub mod History
pub mod Renumbered

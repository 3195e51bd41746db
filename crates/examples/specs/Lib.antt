pub mod Table
pub mod ClassExamples

pub mod ClassExamples
pub mod JoinExample
pub mod SplitExample

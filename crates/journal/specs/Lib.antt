pub mod Token
pub mod Number
pub mod Cursor
pub mod List
pub mod Form
pub mod Command

pub mod Braces
pub mod InLines

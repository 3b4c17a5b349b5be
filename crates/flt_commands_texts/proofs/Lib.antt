pub mod Formatting
pub mod Putting

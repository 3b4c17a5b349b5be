pub mod Pictures
pub mod Titles

pub mod Placed
pub mod Prefix
pub mod Shown

pub mod Decisions
pub mod Turns

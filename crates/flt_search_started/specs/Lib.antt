pub mod Marks
pub mod Triggers

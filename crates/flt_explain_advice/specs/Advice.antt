-- What is wrong, how to fix it, and what else is said of it. This project's own program.
pub mod ByRule
pub mod Levels
pub mod Locks
pub mod Notes
pub mod Places
pub mod Reasons
pub mod Sentences
pub mod Statuses
pub mod Variables

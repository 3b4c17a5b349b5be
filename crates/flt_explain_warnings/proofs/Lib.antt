mod CommentMarks
mod Ends
pub mod Holding
mod Lines
pub mod Marks
pub mod Places
pub mod Reaching
pub mod Sharing
pub mod Sweeps

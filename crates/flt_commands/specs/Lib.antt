pub mod Answer
pub mod Clean
pub mod Commands
pub mod FailureLine
pub mod Folders
pub mod Single

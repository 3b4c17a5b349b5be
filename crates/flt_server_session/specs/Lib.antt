pub mod Answers
pub mod Commands
pub mod Kept
pub mod Messages
pub mod Outgoing
pub mod Replies

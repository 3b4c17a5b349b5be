pub mod Boards
pub mod Queueing
pub mod Starting
pub mod Unseen

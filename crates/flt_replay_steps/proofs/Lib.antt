pub mod Boards
pub mod Moving
pub mod Queues
pub mod Together

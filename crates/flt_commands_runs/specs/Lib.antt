pub mod Answer
pub mod Drawn
pub mod Replay
pub mod Running

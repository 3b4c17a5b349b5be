pub mod Frames
pub mod Handling
pub mod Header
pub mod Line

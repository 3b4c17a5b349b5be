pub mod Counts
pub mod Rows
pub mod Framed
pub mod OtherFrames
pub mod Changes

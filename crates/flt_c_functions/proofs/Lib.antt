pub mod Marks
pub mod Numbers
pub mod OneListing
pub mod OneReading
pub mod Reading
pub mod Writing

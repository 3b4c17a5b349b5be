pub mod Commands
pub mod Program
pub mod Request
pub mod Shown
pub mod Values
pub mod Words
pub mod Workers

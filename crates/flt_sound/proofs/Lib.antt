pub mod sums
pub mod points
pub mod calls
pub mod ends
pub mod moves
pub mod run
pub mod rest
pub mod progress

pub mod All
pub mod Columns
pub mod Least
pub mod Pending
pub mod Ticks
pub mod Walk

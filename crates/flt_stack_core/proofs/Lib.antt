pub mod Agreement
pub mod Arriving
pub mod Counted
pub mod Detached
pub mod Enabled
pub mod Entries
pub mod Filled
mod Following
mod Gone
pub mod Holding
pub mod Outcomes

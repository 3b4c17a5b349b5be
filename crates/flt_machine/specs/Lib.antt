pub mod Situations
pub mod Calls
pub mod Counted
pub mod Active
pub mod Blocking
pub mod Moving
pub mod Tickets

pub mod Padded
pub mod Turns
pub mod HeldLocks
pub mod Standings
pub mod Steps
pub mod Leads
pub mod Loading
pub mod Firsts

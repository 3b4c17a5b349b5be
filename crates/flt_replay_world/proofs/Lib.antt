pub mod EntryVisits
pub mod Openings
pub mod Reading
pub mod Stacks

pub mod Entries
pub mod Noted
pub mod Searches

pub mod Beginning
pub mod BuiltCommands
pub mod Counts
pub mod Requests
pub mod Letters
pub mod Needed
pub mod PagedNames
pub mod KindNames

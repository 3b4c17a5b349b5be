pub mod Alone
pub mod Facts
pub mod Gathering
pub mod Grouping
pub mod Origins
pub mod Search
pub mod Trace
pub mod Ways

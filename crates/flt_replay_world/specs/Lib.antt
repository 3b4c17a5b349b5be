pub mod Filters
pub mod Happening
pub mod Opening

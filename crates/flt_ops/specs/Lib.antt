pub mod Unsettled
pub mod Numbered
pub mod Operating
pub mod Kept

pub mod Loaded
pub mod Loading
pub mod Lowered
pub mod Ordering

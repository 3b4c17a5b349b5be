pub mod Boards
pub mod Covered
pub mod Files
pub mod Judged
pub mod Leasts
pub mod Ordered

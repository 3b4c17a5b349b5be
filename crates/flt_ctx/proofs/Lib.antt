pub mod Rows
pub mod Walks
pub mod Relinked
pub mod Algebra
pub mod First
pub mod Used
pub mod Fresh
pub mod Indexed

pub mod Candidates
pub mod Files
pub mod Inclusions
pub mod Laws
pub mod Reading
pub mod World

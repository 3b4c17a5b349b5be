pub mod Advice
pub mod Branches
pub mod Case
pub mod Subjects
pub mod Words

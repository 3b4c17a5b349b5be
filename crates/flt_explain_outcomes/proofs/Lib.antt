pub mod Answers
pub mod Notes
pub mod Runs
pub mod Studied
pub mod Surveys
pub mod Variables

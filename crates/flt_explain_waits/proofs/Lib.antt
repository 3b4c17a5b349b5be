pub mod Listing
pub mod LocalRuns
pub mod LocalSteps
pub mod Stuck

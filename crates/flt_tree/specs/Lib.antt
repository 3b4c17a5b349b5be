pub mod Declarations
pub mod Filter
pub mod Measures
pub mod Names
pub mod Registered
pub mod Variable
pub mod WellFormed

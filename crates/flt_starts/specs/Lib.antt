pub mod Closed
pub mod Starts
pub mod WorkedStarts

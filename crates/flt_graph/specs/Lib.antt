pub mod Codes
pub mod Graph
pub mod Instruction
pub mod Kept
pub mod Lowering
pub mod Points
pub mod Served
pub mod Turns

pub mod Cells
pub mod Creates
pub mod Deciding
pub mod Flows
pub mod Kinds
pub mod Rounds
pub mod Settled
pub mod Sites

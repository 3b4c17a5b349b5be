pub mod Comments
pub mod Fronts
pub mod Kept
pub mod SameTokens
pub mod SameTree
pub mod Settled
pub mod Steps
pub mod Trimmed

pub mod Own
pub mod Plans
pub mod Following
pub mod Continuing
pub mod Completing
pub mod Returning

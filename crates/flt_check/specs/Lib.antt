pub mod Accepting
pub mod Checker
pub mod Covering
pub mod Full
pub mod Ready
pub mod ThinCovering
pub mod ThinFault

pub mod Covering
pub mod NoWay
pub mod Reported
pub mod Told
pub mod Tracing

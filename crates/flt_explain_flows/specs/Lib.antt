pub mod FindingRun
pub mod Flows
pub mod Naming
pub mod Running

pub mod Apart
pub mod Holdings
pub mod Judging
pub mod Ledger
pub mod Lesser
pub mod Monitoring
pub mod Rows
pub mod Scenes

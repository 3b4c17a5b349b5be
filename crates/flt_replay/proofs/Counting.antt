-- What the running counts of the ledger say of a trace.
pub mod Blank
pub mod Concluding
pub mod Events
pub mod Following
pub mod Holders
pub mod Ledgers
pub mod Noting
pub mod Ones
pub mod Rows
pub mod Taking
pub mod Tallies
pub mod Totals

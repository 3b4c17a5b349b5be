-- What a thin certificate covers, what follows from it, and the one pass that finds its least fault.
pub mod Accepted
pub mod Certificates
pub mod Checked
pub mod Columns
pub mod Edges
pub mod Filled
pub mod Filling
pub mod Known
pub mod Looked
pub mod Once
pub mod Ready
pub mod Sides

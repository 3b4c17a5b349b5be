-- From a step of the machine to the certificate and back: what an activation's place in its text says (Placed, Legal, Rows),
-- what is kept of
-- each moment (Stored, Kept), and that a step whose events and changes are told so keeps it (Events, Stepping, Opened, Handed, Local).
pub mod Events
pub mod Growing
pub mod Handed
pub mod Kept
pub mod Legal
pub mod Local
pub mod Opened
pub mod Placed
pub mod Rows
pub mod Stepping
pub mod Stored

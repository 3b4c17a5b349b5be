-- The queues of what waits, by tickets, and how often each visit waits.
pub mod CountWaiting
pub mod QueueMiddle
pub mod Tickets

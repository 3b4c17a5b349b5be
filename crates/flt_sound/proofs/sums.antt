-- The sums that the proof keeps: what activations own and have, by the trace (Shadows, Counts, Slots), where visits and references stand
-- (Differences), and what a step does to the owners of visits (Turns, Owners) and to the references of contexts (Ledger and those on it).
pub mod Belonging
pub mod Counts
pub mod Differences
pub mod Eaches
pub mod Handovers
pub mod Ledger
pub mod Owners
pub mod References
pub mod Shadows
pub mod Slots
pub mod Standing
pub mod Touching
pub mod Turns
pub mod Uses

-- Steps of the filter manager and of worker threads. A callback that is entered stands at the first point of its text, and what it is
-- given leaves the place where it stood.
pub mod Entering
pub mod Gifts
pub mod Moves
pub mod QueueMoves
pub mod Starting
pub mod StoreMoves
pub mod VisitMoves

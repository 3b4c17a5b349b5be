-- How a filter's part in an operation ends, by a call that completes it or by the end of the callback, and from all that stands so
-- far: each step that an activation takes and others see is good.
pub mod Board
pub mod Completing
pub mod Ending
pub mod Frames
pub mod ReturnRules
pub mod Returning
pub mod Settling
pub mod Tests

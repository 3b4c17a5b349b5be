-- What the machine's steps leave as it is, and who has a visit before and after each.
pub mod Apart
pub mod EachStep
pub mod Frames
pub mod Handing
pub mod Locals
pub mod MoveCases
pub mod MoveRules
pub mod Onward
pub mod Owners
pub mod Visits

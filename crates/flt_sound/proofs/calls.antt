-- The calls of the driver kit, and the reads and writes: each is good where no rule is broken at it. A call that hands an operation or a
-- context over, takes one or changes its references changes what variables own by just that.
pub mod Contexts
pub mod Effects
pub mod Handing
pub mod Links
pub mod Locking
pub mod Queueing
pub mod Reading
pub mod Removing
pub mod SetContext
pub mod Stores

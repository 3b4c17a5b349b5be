-- That what started can end: an order of locks, by computing (Ordering), lets some callback go on (Waiting), so that all can end
-- (Finishing); nothing more comes of a filter that isn't attached (Dwindling), so that its unload can complete (Unloading), and each
-- operation (Reaching).
pub mod Dwindling
pub mod Finishing
pub mod Ordering
pub mod Reaching
pub mod Unloading
pub mod Waiting

-- The sets of places by which links and queues find the first of their numbers.
pub mod First
pub mod FirstLinked
pub mod PlaceOrder

pub mod PairOrder

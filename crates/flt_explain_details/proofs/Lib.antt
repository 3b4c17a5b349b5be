pub mod MoreDetails

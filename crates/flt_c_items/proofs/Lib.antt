pub mod AllTokens
pub mod LeftOut

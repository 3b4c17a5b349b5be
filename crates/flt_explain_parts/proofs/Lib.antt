pub mod Adding
pub mod Counting
pub mod Drifts
pub mod Names
pub mod RuleLists
pub mod Texts

pub mod Costs
pub mod WorkedCosts

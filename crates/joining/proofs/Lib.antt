pub mod Climbing
pub mod Counts
pub mod Digits
pub mod RatioValue

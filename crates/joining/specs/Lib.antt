pub mod Fault
pub mod Ladder
pub mod Quotient

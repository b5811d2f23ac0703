pub mod Fault
pub mod Number
pub mod Reason

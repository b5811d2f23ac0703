pub mod First
pub mod Meaning
pub mod Numbers
pub mod Operation
pub mod Pairs
pub mod Power
pub mod Residues

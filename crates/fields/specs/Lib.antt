pub mod Inverse
pub mod Lawfulness
pub mod Pairs
pub mod Residues

pub mod Calls
pub mod Cut
pub mod Example
pub mod Laws
pub mod Texts
pub mod Tracks

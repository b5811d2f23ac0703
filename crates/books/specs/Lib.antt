pub mod Layout
pub mod Loading
pub mod Output
pub mod Parts
pub mod RoundTrip
pub mod Writing

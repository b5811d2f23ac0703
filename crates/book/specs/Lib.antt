pub mod Forms
pub mod Named

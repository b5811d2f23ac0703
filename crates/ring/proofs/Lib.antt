pub mod InverseValue

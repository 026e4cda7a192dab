pub mod Unique
pub mod Lengths

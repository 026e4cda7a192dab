pub mod Stretches
pub mod Cover

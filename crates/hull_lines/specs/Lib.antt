pub mod Between
pub mod Certificates
pub mod Lines
pub mod Outcomes
pub mod Ranges
pub mod Slopes
pub mod Worst

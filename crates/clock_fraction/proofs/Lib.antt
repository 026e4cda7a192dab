pub mod Heights
pub mod Means

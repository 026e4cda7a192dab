pub mod Fits
pub mod Forest
pub mod Gathered
pub mod Order
pub mod Places
pub mod Points
pub mod Rooted

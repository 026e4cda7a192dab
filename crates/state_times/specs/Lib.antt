pub mod Times
pub mod Rows
pub mod StandsFor

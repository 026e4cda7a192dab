pub mod ClockMap
pub mod Fractions

pub mod Sums
pub mod Turns
pub mod Words
pub mod StandardFacts

pub mod Turns
pub mod Tables
pub mod Keys
pub mod Replayed
pub mod Counts
pub mod StandardFacts

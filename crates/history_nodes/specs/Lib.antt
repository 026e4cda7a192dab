pub mod Intervals
pub mod Nodes

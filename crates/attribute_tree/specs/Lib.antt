pub mod Numbered
pub mod Nodes
pub mod Links
pub mod Rows
pub mod Fronts
pub mod Places

pub mod Choice
pub mod Fields
pub mod Leaves
pub mod Named
pub mod Reading
pub mod Values

pub mod Attributes
pub mod Typing

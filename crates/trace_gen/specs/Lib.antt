pub mod Draws
pub mod Acts
pub mod Events
pub mod Layout
pub mod Metadata
pub mod Folders

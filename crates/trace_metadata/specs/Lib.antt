pub mod Causes
pub mod Files

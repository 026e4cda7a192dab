pub mod Putting
pub mod Covering
pub mod Ranging
pub mod OneAnswer

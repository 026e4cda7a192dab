pub mod Digits
pub mod Listed
pub mod Named
pub mod OneAnswer
pub mod OneMore
pub mod Places
pub mod Room
pub mod Taken

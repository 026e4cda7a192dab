pub mod Holder
pub mod Pieces
pub mod Steps
pub mod Laws

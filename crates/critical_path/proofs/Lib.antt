pub mod Tiling
pub mod LinkViews
pub mod Following
pub mod Keys
pub mod OneHolder
pub mod OnePath
pub mod LinkExists
pub mod Somebody

pub mod Depths
pub mod Kept
pub mod Lists
pub mod Merge
pub mod PlaceLists
pub mod Placed

pub mod Counting
pub mod Placed
pub mod Coming
pub mod Stretches
pub mod Taken
pub mod Told
pub mod Filling

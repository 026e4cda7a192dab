pub mod Contexts
pub mod FixedSizes
pub mod Headers
pub mod Lone
pub mod Placed
pub mod Singles

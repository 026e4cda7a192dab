pub mod Parts
pub mod Excess
pub mod Marks
pub mod Missing
pub mod Hosts
pub mod Jobs
pub mod Limits
pub mod OneTrace

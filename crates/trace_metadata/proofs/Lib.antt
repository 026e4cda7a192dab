pub mod OneRefusal
pub mod OneTrace

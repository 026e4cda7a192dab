pub mod Free
pub mod Rising

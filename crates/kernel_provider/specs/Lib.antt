pub mod Rules
pub mod Replay
pub mod Steps
pub mod Given

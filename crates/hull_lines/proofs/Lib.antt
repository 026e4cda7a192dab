pub mod Anchors
pub mod Chords
pub mod Decided
pub mod Narrowing
pub mod OneLine
pub mod Seen
pub mod Tight

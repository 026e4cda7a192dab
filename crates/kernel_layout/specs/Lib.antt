pub mod Sought
pub mod Tracepoints
pub mod Needed
pub mod SegmentParts
pub mod Skips
pub mod Plans
pub mod Kinds

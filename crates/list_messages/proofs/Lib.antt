pub mod AtEvents
pub mod OfLists

pub mod Gets
pub mod Growth
pub mod Scans
pub mod Gathering
pub mod Outcomes
pub mod Children
pub mod Order

pub mod Devices
pub mod Notes
pub mod Order
pub mod Places
pub mod Requests
pub mod Steps

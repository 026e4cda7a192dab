pub mod Events
pub mod PacketHeads
pub mod Pieces
pub mod Times
pub mod Values
pub mod EventReaders
pub mod Packets
pub mod ToldHeads

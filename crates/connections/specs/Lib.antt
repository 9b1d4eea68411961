pub mod Door
pub mod MemDoor
pub mod MemWire
pub mod Places
pub mod Present
pub mod Wire

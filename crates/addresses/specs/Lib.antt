pub mod Address
pub mod Fault
pub mod FileBase
pub mod Join

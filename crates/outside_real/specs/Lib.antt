pub mod FileDisk
pub mod Notes
pub mod RealFolder
pub mod StdSink
pub mod StdSource
pub mod TcpDoor
pub mod TcpWire

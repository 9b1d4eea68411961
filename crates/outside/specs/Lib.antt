pub mod FailingCalls
pub mod MemSink
pub mod MemSource
pub mod Streams
pub mod WantOfMemory

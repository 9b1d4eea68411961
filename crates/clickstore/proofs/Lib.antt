pub mod AnyStart

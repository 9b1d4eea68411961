pub mod Connection
pub mod Prepared

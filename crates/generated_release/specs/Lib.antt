pub mod Faults
pub mod Files
pub mod Options
pub mod Published
pub mod SureFolder

pub mod Key
pub mod Printed
pub mod Version

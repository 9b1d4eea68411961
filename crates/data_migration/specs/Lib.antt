pub mod Migration
pub mod Plans
pub mod Tables

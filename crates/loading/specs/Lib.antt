pub mod InBytes
pub mod Workings

pub mod Comparing
pub mod Workings

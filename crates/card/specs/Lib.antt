pub mod Writing
pub mod Reading
pub mod Refining
pub mod Workings

pub mod Planning
pub mod Workings

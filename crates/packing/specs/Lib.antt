pub mod Planes
pub mod Workings

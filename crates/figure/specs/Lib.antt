pub mod Figure
pub mod Bounding
pub mod Workings

pub mod CardOrder
pub mod Workings

pub mod Page
pub mod Rolling
pub mod Workings

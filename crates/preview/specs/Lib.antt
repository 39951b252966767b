pub mod Previewing
pub mod Workings

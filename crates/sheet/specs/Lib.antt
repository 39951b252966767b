pub mod Limits
pub mod Lists
pub mod Sheet
pub mod Workings

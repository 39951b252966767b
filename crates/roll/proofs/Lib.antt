pub mod Lines
pub mod Pages
pub mod Shown
pub mod Rolled
mod Fields
mod TwoDigits
mod Values
mod Walk
mod RollCall

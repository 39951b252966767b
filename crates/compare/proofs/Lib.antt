pub mod Marks
mod Sums
pub mod CompareCall

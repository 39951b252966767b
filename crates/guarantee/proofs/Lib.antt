mod AllPlanes
mod Bytes
mod Carried
mod Cells
mod Coefficients
mod Cut
mod Enough
mod Fields
mod Fine
mod Fits
mod Near
mod OneMore
mod Plans
mod RowsCalls
mod RowsOpened
mod Shows
mod Step
mod Taken
mod Told
mod Written
pub mod Again
pub mod Compares
pub mod Holds
pub mod Measures
pub mod Middles
pub mod Previews
pub mod Refined
pub mod Refused
pub mod Rolls
pub mod Rows
pub mod Tables

pub mod All
pub mod Blocks
mod RowsTo
pub mod Runs
pub mod Packing
pub mod RowBytes
pub mod BodyOrder
pub mod HeldLayers
pub mod FlatPlanes
pub mod Gathers
pub mod Counting
pub mod Needed
pub mod HeldWords
pub mod Measured
pub mod Losses
pub mod Cards

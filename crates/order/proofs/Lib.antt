pub mod Ahead
pub mod CardOrder
pub mod Tops
pub mod Whole
pub mod Through
pub mod Walk
pub mod Slots
pub mod Listed

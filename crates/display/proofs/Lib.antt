mod Behind
mod Seeing
mod Rolling
mod MarkLines
mod Both
mod Order
pub mod Rows
pub mod AllPieces
mod LongLines
pub mod LongInput
pub mod LongShown
pub mod BothInputs

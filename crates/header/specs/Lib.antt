pub mod Refusals
pub mod Header
pub mod Losses
pub mod Plan
pub mod Opening
pub mod Workings

mod RisingCarry
mod Bridge
pub mod Entries
mod Orders
mod AllPlans
mod KeepsBest
pub mod Best
mod Law
pub mod Final
mod Passing
mod Filling
mod LastRow
mod WalkBack
mod PlanCall

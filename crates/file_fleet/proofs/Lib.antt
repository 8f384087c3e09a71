mod Pictures
pub mod Kept
mod States
pub mod Held
pub mod Inventory
mod Records

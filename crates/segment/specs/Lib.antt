pub mod Bytes
pub mod Order
pub mod View
pub mod Faults
pub mod Walk

pub mod Order
pub mod Finding
pub mod Cuts
pub mod Grouping
pub mod Covering
pub mod Starting
pub mod Sorted
pub mod Dividing

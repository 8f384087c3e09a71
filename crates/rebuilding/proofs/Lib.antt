pub mod Carried
pub mod Marks
pub mod AllGroups
pub mod Ordered
pub mod Twins
pub mod Wholes
pub mod Turned
pub mod Scans

pub mod Good
pub mod Preferred
pub mod Looked
pub mod Lost
pub mod Planned
pub mod Texts

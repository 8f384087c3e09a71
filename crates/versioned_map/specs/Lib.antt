pub mod Command
pub mod Versioned
pub mod History
pub mod Units
pub mod Membership
pub mod Represents
pub mod Map

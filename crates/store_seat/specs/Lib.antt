pub mod Made
pub mod Seats
pub mod Stops
pub mod Accounts
pub mod Calls
pub mod Claims
pub mod Shared

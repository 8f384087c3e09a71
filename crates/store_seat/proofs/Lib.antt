pub mod Places
pub mod Calling
pub mod Owning

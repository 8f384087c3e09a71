pub mod Lists
pub mod Map
pub mod Hashing
pub mod Secrets
pub mod Law
pub mod Relocation

pub mod MapLemmas
pub mod Tops
pub mod Meant
pub mod Clashing
pub mod ReplayLemmas

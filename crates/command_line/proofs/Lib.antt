pub mod Numbers
pub mod Ramlog

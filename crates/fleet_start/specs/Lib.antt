pub mod First
pub mod Found
pub mod Options

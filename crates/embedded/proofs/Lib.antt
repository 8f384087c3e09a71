pub mod Going
pub mod Living
pub mod Losing
pub mod Numbers
pub mod Surviving

pub mod Packed
pub mod Numbers
pub mod Heads
pub mod Holding
pub mod Testing
pub mod Greatest
pub mod Answering

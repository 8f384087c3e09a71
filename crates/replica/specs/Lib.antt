pub mod Op
pub mod Picture
pub mod Take
pub mod Acks
pub mod Retire
pub mod Choice
pub mod Survival
pub mod Registry

pub mod Behind
pub mod Cuts
pub mod OneLine

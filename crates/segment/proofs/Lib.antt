pub mod RowLemmas
pub mod OrderLemmas
pub mod WalkLemmas
pub mod FaultLemmas
pub mod UnitLemmas
pub mod OneFault

pub mod Raw
pub mod Cutting
pub use Rattle.lines.specs as lines

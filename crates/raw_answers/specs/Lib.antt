pub mod Texts
pub use Rattle.answers.specs as answers
pub use Rattle.raw_lines.specs as raw_lines

pub mod OpText

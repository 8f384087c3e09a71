pub mod Places
pub mod Kept
pub mod Log
pub mod Moved
pub mod Piece
pub mod Laws
pub mod Asked

mod Places
mod Shelves
mod Acting
mod Pictures
mod Held
mod Rising
mod Serving
pub mod Others
mod Freeing
pub mod Empty

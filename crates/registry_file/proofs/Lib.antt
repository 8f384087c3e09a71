mod Lists
mod Replays
mod Wholes
mod Makes
mod Puts
mod Opened

mod Replays
mod AllMade
mod Mirrors
mod Makes
mod Versions
mod Opened

mod Backs
mod OneText

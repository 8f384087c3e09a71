mod Options
mod OneText
mod Short

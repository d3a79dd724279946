mod Words
mod Levels
mod Search
mod Listed

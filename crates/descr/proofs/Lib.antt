mod Following
mod Runs
mod Sends
mod Tests
mod TwoLayouts
mod Turns

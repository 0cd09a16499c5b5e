mod Calls
mod Marks
mod Turns
mod Loops

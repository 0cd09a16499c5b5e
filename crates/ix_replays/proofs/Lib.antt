mod Marks
mod Runs
mod Steps
mod Flags
mod Whole
mod Holds
mod Together
mod Agreed

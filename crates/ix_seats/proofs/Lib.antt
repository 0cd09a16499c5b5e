mod Names
mod Turns
mod Answering
mod Keeping
mod Telling
mod Marks
mod Left

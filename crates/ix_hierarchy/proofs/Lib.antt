mod Grown
mod Marked
mod Opened
mod Passed
mod Among
mod Sorted

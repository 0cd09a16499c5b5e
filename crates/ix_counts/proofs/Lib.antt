mod Sums
mod Events

mod Orders
mod Sorting
mod Index
mod Sizes
mod Roles
mod Valid
mod Written
mod Planned

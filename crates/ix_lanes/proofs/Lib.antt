mod Lists
mod Names
mod Counting
mod Held
mod Asked
mod Ready

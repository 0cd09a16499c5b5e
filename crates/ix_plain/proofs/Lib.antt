mod Endings
mod Spelled

-- The law that a function's proof cites.
mod Twelve

-- Laws that the function's proof cites.
mod Lined

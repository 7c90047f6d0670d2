-- Laws that the functions' proofs cite.
mod Passing
mod Marks
mod Judged
mod Walking
mod Placed

-- That no vector is shorter than the one that the rule writes, and the laws that show it.
pub mod Reach
pub mod NoVectorIsShorter

-- Acknowledgement vectors: what a byte says, the rule that writes them, and that what is written reads back. That no vector is shorter stands in proofs/.
pub mod Says
pub mod Rule
pub mod Laws
pub mod Reading
pub mod ReadsBack

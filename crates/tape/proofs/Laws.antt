-- The laws, each file with the noun that it speaks of.
pub mod Running
pub mod Hearing
pub mod Going
pub mod Chunks

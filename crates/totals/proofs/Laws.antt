-- The laws, each file with the noun that it speaks of.
pub mod Splitting
pub mod Sweeping
pub mod Hearing
pub mod Chunks

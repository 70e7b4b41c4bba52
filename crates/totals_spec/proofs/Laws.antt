-- The laws, each file with the noun that it speaks of.
pub mod Examples
pub mod Chunks
pub mod Counting
pub mod Turns
pub mod Adding
pub mod Rows
pub mod Sums
pub mod Bounds
pub mod Ranking
pub mod Limit
pub mod Sessions
pub mod Unique

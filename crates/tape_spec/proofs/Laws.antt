-- The laws, each file with the noun that it speaks of.
pub mod Rows
pub mod Fine
pub mod Taping
pub mod Coming
pub mod Remaining
pub mod Whole
pub mod Frames
pub mod Sessions
pub mod Unique
pub mod Examples

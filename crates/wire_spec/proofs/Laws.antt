-- Theorems about the definitions of specs/, each with the noun it speaks of.
pub mod Stuffing
pub mod Unstuffing
pub mod Image
pub mod Writing
pub mod Unique
pub mod Examples

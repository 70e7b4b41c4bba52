-- Theorems about the definitions of specs/, each with the noun it speaks of.
pub mod Xor
pub mod Fcs
pub mod Check
pub mod Right

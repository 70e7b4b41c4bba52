-- Theorems about the definitions of specs/, each with the noun it speaks of.
pub mod Progress
pub mod Notice

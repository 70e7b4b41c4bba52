-- Theorems about the definitions of specs/, each with the noun it speaks of.
pub mod Decimal
pub mod Signed
pub mod Hex
pub mod Examples

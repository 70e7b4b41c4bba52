-- What must be believed of this library: the text of a number and of bytes, as lists of ASCII codes. Where it goes is ground's
-- `Laying`. Read beside document 01, 'The listing program', and docs/BENCH.md, 'Script'.
pub mod Ascii
pub mod Decimal
pub mod Hex
pub mod Examples

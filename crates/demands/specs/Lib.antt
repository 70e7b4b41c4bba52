-- The front door: the three demands as three propositions (Demands), with what demand 1 says call by call (Refusing), what demand 2 promises of
-- one call of a reader and of its reply (Exchanging), and how calls cut at will go on (Going). What the report of a tape promises stands beside
-- them (Reporting), and what a power cut leaves of a reader and slow ones do not write (Powering).
-- What they name is in the crates below, each NAME_spec with its own Lib.
pub mod Refusing
pub mod Exchanging
pub mod Going
pub mod Demands
pub mod Reporting
pub mod Powering

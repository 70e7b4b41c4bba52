-- The laws, each file with the noun that it speaks of.
pub mod Parameters
pub mod Acceptance
pub mod Header
pub mod Requesting
pub mod Reading
pub mod Unique
pub mod Examples

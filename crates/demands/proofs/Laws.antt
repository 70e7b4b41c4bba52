-- The theorems that speak of more than one noun; the three demands and what the requests promise last.
pub mod Mastering
pub mod Exchange
pub mod Requests
pub mod Refusing
pub mod Going
pub mod Demands
pub mod Reporting
pub mod Powering

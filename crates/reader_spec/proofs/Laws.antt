-- The laws, each file with the noun that it speaks of.
pub mod Speeds
pub mod Parameters
pub mod State
pub mod Replies
pub mod Sending
pub mod Answering
pub mod Executing
pub mod Agreeing
pub mod Sessions
pub mod Idle
pub mod Repeats
pub mod Some
pub mod Values
pub mod Unique
pub mod Examples

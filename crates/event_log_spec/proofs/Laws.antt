-- The laws, each file with the noun that it speaks of.
pub mod Log
pub mod Appending
pub mod Doing
pub mod Answering
pub mod Unique
pub mod Lots
pub mod Ring
pub mod Agreeing
pub mod Giving
pub mod Replies
pub mod Sessions
pub mod Some
pub mod Examples

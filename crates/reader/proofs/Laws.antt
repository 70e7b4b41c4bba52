-- The laws, each file with the noun that it speaks of.
pub mod Replies
pub mod Answering

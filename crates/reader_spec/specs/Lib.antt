-- What must be believed of this library: what a point reader answers, and what each call does.
-- Read Parameters, Asking, Replies and Sending beside document 01, 'The point reader'; Speeds beside 02, L2; Limits, State and Answering beside
-- both and 'Refusal numbers'; Sessions and Promises as what demand 2 says of a reader over many calls; Examples beside 'Bench examples'.
-- The contents of frames are those of `link_spec`, images those of `wire_spec`, commands and the data that they accept those of `request_spec`.
pub mod Limits
pub mod Speeds
pub mod Parameters
pub mod State
pub mod Asking
pub mod Replies
pub mod Sending
pub mod Answering
pub mod Sessions
pub mod Promises
pub mod Examples

-- What must be believed of this library: which requests there are, what replies say, and what the master reads in them.
-- Read Limits, Parameters, Cards, Acceptance, Header and Replies beside document 01, 'The point reader'; Requesting, what the writer of requests
-- answers, beside 'Refusal numbers'; Reading beside 'Master's side' and 'Refusal numbers'; Examples beside those and 'Bench examples'.
-- The contents of frames are those of `link_spec`, images those of `wire_spec`.
pub mod Limits
pub mod Parameters
pub mod Cards
pub mod Acceptance
pub mod Header
pub mod Replies
pub mod Requesting
pub mod Reading
pub mod Examples

-- What must be believed of this library: how a content stands on the wire. Read Limits, Stuffing and Image beside document 01, 'Layout
-- of a frame', Writing beside 'Refusal numbers', and Examples beside 'Bench examples'.
pub mod Limits
pub mod Stuffing
pub mod Image
pub mod Writing
pub mod Examples

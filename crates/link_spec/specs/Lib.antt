-- What is so of stations, frames and receivers. Read Limits, Address, Station and Frame beside document 01, 'The two lines' and 'Layout of a
-- frame'; Writers, what each frame writer answers, beside that and 'Refusal numbers'; Events beside 'How the receiver moves'; Receiving, what
-- each call of a receiver answers, beside that and 'Refusal numbers'; Hearing and Listing as the rule that crew and desk signed, and Fields for
-- what a listed frame says; Examples beside 'Bench examples'. Which frames are heard is then known. Turning, Moves and Rules, beside 'How the
-- receiver moves', say how the receiver gets there, and when it tells another event than FRAME.
pub mod Limits
pub mod Address
pub mod Station
pub mod Frame
pub mod Writers
pub mod Events
pub mod Turning
pub mod Moves
pub mod Rules
pub mod Receiving
pub mod Hearing
pub mod Listing
pub mod Fields
pub mod Examples

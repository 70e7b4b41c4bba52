-- What is so of a tape: what its listing is, and what each call answers.
-- Read Limits, Rows and Whole beside document 01, 'The listing program': `listing` in Whole is the text of a whole tape, put together of the
-- rows of Rows. Frames says which frames it has to show, as the rule that crew and desk signed. Taping says what the calls of the crates
-- `reel`, `rows` and `tape` answer, Coming what a tape's next byte is, in the paper's words, Sessions how a tape is handed over in chunks, and
-- Examples holds the paper's tape.
pub mod Limits
pub mod Rows
pub mod Whole
pub mod Frames
pub mod Taping
pub mod Coming
pub mod Sessions
pub mod Examples

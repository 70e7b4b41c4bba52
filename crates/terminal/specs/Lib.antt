-- What the functions that ask a terminal and a clock answer: what `progress` says, for the answers that they got.
pub mod Asking

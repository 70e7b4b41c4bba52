-- What the functions inside this library promise each other. What its call puts is said in `tape_spec`, Rows.
pub mod Heads

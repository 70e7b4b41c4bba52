-- What the functions inside this library promise each other. What its calls answer is said in `tape_spec`: `listed` in Taping, and Rows.
pub mod Running

-- What the functions inside this library promise each other. What its calls do is said in `reader_spec`: Answering and Sending.
pub mod Replies

-- What must be believed of this library: when a notice of how far an input is read is due, and its bytes.
pub mod Progress
pub mod Notice

-- What must be believed of this library: the check values. Read all beside document 01, 'Layout of a frame'.
pub mod Fcs
pub mod Sum
pub mod Check

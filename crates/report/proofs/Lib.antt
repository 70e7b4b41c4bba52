-- The laws of this program, which stand for no one function.
pub mod Laws

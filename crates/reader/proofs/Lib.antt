-- The laws of this library, which stand for no one function.
pub mod Laws

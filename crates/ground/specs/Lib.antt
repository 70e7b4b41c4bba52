-- What must be believed of this library: the refusals with their numbers, beside document 01, 'Refusal numbers', what stands in a
-- buffer after a call, the lesser of two numbers, and the claim that each row of a table holds. A byte is a number; no definition asks
-- that it be below 256, since the contracts hand over bytes.
pub mod Refusals
pub mod Laying
pub mod Lesser
pub mod Each
